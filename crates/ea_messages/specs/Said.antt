-- The lines for outcomes, and the exit statuses.
use Rattle.std.specs.Prelude.{ℕ, ◌+◌, ◌-◌, ◌^◌, ◌≤◌, true, List, [], ◌∷◌, Option, Some, None, codes, decimal, if◌then◌else◌, unwrap_or}
use Rattle.std.specs.List.{flat_map}
use Rattle.std.specs.Io.KnownBytes.{Appends}
use Rattle.ea_base.specs.declared.limits.TheConstants.{MOST_INTERRUPTIONS}
use Rattle.ea_blocks.specs.Outcome.{fault_number, fault_name}
use Rattle.ea_blocks.specs.declared.blocks.ReadFault.{ReadFault}
use Rattle.ea_blocks.specs.declared.blocks.ReadFault.TheVariants as read
use Rattle.ea_blocks.specs.FaultNames.{kind_number, kind_name}
use Rattle.ea_load.specs.declared.file_fault.FileWord.{FileWord}
use Rattle.ea_blocks.specs.declared.fault.FaultKind.{FaultKind}
use Rattle.ea_blocks.specs.declared.fault.FaultKind.TheVariants as kind
use Rattle.ea_load.specs.FileNames.{file_word}
use Rattle.ea_bytes.specs.Device.{Seen, BearsOn, GivesUp}
use Rattle.ea_report.specs.Sent.{IsCutAt}
use Rattle.ea_options.specs.declared.fault.CommandFault.{CommandFault}
use Rattle.ea_options.specs.declared.fault.CommandFault.TheVariants as command
use Rattle.ea_check.specs.declared.fault.CheckFault.{CheckFault}
use Rattle.ea_check.specs.declared.fault.CheckFault.TheVariants as checked
use Rattle.ea_check.specs.FaultNames as report
use Rattle.ea_load.specs.declared.answer_fault.AnswerFault.{AnswerFault}
use Rattle.ea_load.specs.declared.answer_fault.AnswerFault.TheVariants.{Read, Input, BadOption, Write, OutOfMemory}
use Rattle.ea_messages.specs.declared.outcome_lines.Outcome.{Outcome}
use Rattle.ea_messages.specs.declared.outcome_lines.Outcome.TheVariants.{Command, Unopened, Answer, Accepted, Check}

-- Parts of a line, concatenated.
abbrev pub concatenated : List (List ℕ) → List ℕ
concatenated parts = flat_map (λ part. part) parts

-- `earliest: MESSAGE`
abbrev pub plain_line : List ℕ → List ℕ
plain_line message = concatenated (codes "earliest: " ∷ message ∷ codes "\n" ∷ [])

-- `earliest: FILE: NUMBER NAME`
abbrev pub file_line : List ℕ → ℕ → List ℕ → List ℕ
file_line file number name = concatenated (codes "earliest: " ∷ file ∷ codes ": " ∷ decimal number ∷ codes " " ∷ name ∷ codes "\n" ∷ [])

-- `earliest: FILE LINE: NUMBER NAME`
abbrev pub text_line : List ℕ → ℕ → ℕ → List ℕ → List ℕ
text_line file line number name = concatenated (codes "earliest: " ∷ file ∷ codes " " ∷ decimal line ∷ codes ": " ∷ decimal number ∷ codes " " ∷ name ∷ codes "\n" ∷ [])

-- `earliest: 12 WriteFailed after N bytes`
abbrev pub written_line : ℕ → List ℕ
written_line written = concatenated (codes "earliest: 12 WriteFailed after " ∷ decimal written ∷ codes " bytes\n" ∷ [])

-- `earliest: check NUMBER NAME line LINE`
abbrev pub check_line : ℕ → List ℕ → ℕ → List ℕ
check_line number name line = concatenated (codes "earliest: check " ∷ decimal number ∷ codes " " ∷ name ∷ codes " line " ∷ decimal line ∷ codes "\n" ∷ [])

-- The line for refused memory, wherever it happened.
abbrev pub memory_line : List ℕ
memory_line = plain_line (codes "13 OutOfMemory")

-- The line of a file that wasn't read.
abbrev pub read_line : FileWord → ReadFault → List ℕ
read_line file read.TooLarge = file_line (file_word file) (fault_number read.TooLarge) (fault_name read.TooLarge)
read_line file read.ReadFailed = file_line (file_word file) (fault_number read.ReadFailed) (fault_name read.ReadFailed)
read_line file read.OutOfMemory = memory_line

-- The line of a text with a fault.
abbrev pub input_line : FileWord → ℕ → FaultKind → List ℕ
input_line file line kind.OutOfMemory = memory_line
input_line file line found = text_line (file_word file) line (kind_number found) (kind_name found)

-- The line of a command that wasn't understood; for `Words`, their text.
abbrev pub command_line : CommandFault → List ℕ
command_line (command.Words help text) = text.bytes.items
command_line command.BadOption = plain_line (codes "14 BadOption")
command_line command.OutOfMemory = memory_line

-- The line of an answer that isn't whole.
abbrev pub answer_line : AnswerFault → List ℕ
answer_line (Read file fault) = read_line file fault
answer_line (Input file fault) = input_line file fault.line fault.kind
answer_line BadOption = plain_line (codes "14 BadOption")
answer_line (Write written) = written_line written
answer_line (OutOfMemory written) = memory_line

-- The line of a report that is refused.
abbrev pub refused_line : CheckFault → List ℕ
refused_line checked.OutOfMemory = memory_line
refused_line fault = check_line (report.fault_number fault) (report.fault_name fault) (unwrap_or (report.fault_line fault) 0)

abbrev pub line_of : Outcome → List ℕ
line_of (Command fault) = command_line fault
line_of (Unopened file) = file_line (file_word file) 15 (codes "OpenFailed")
line_of (Answer fault) = answer_line fault
line_of Accepted = codes "ok\n"
line_of (Check fault) = refused_line fault

-- The text that was asked for, if the outcome is no fault.
abbrev pub asked_text : Outcome → Option (List ℕ)
asked_text (Command (command.Words true text)) = Some text.bytes.items
asked_text Accepted = Some (codes "ok\n")
asked_text _ = None

-- ---- statuses

abbrev pub command_status : CommandFault → ℕ
command_status (command.Words help text) = if help then 0 else 2
command_status command.BadOption = 2
command_status command.OutOfMemory = 3

abbrev pub read_status : ReadFault → ℕ
read_status read.TooLarge = 1
read_status read.ReadFailed = 4
read_status read.OutOfMemory = 3

abbrev pub input_status : FaultKind → ℕ
input_status kind.OutOfMemory = 3
input_status _ = 1

abbrev pub answer_status : AnswerFault → ℕ
answer_status (Read file fault) = read_status fault
answer_status (Input file fault) = input_status fault.kind
answer_status BadOption = 2
answer_status (Write written) = 4
answer_status (OutOfMemory written) = 3

abbrev pub refused_status : CheckFault → ℕ
refused_status checked.OutOfMemory = 3
refused_status _ = 5

abbrev pub status_of : Outcome → ℕ
status_of (Command fault) = command_status fault
status_of (Unopened file) = 4
status_of (Answer fault) = answer_status fault
status_of Accepted = 0
status_of (Check fault) = refused_status fault

-- ---- what went out

-- The first bytes of a line were sent, and nothing after a failure or the 1,001st interruption. All of it was
-- sent if no call failed, at most 1,000 were interrupted, and neither count is at its end.
pub record IsSaid (line : List ℕ) (first now : Seen) : Type 0 where
  pub sent : ℕ
  pub front : IsCutAt first.bytes now.bytes line sent
  pub one_failure : now.failed ≤ first.failed + 1
  pub few_interruptions : now.interrupted ≤ first.interrupted + (MOST_INTERRUPTIONS + 1)
  pub whole : now.failed ≤ first.failed → now.failed + 1 ≤ 2 ^ 64 - 1 → now.interrupted ≤ first.interrupted + MOST_INTERRUPTIONS → now.interrupted + 1 ≤ 2 ^ 64 - 1 → Appends first.bytes now.bytes line

-- A text was sent whole: no call failed, and at most 1,000 were interrupted.
abbrev pub IsShown : List ℕ → Seen → Seen → Type 0
IsShown text first now = Appends first.bytes now.bytes text × BearsOn first now

-- Only its first bytes were sent, as many as the fault says, and the device gave up.
abbrev pub IsUnshown : List ℕ → Seen → Seen → AnswerFault → Type 0
IsUnshown text first now (Write written) = IsCutAt first.bytes now.bytes text written × GivesUp first now
IsUnshown text first now _ = ⊥
