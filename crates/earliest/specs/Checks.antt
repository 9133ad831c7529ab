-- The outcome of checking a report, for the network and the sources that its files denote.
use Rattle.std.specs.Prelude.{◌≡◌, ◌⊎◌, ℕ, IfErr, IfOk, List, Result}
use Rattle.std.specs.Io.KnownBytes.{IsAtEnd}
use Rattle.ea_load.specs.declared.file_fault.FileWord.TheVariants.{Report}
use Rattle.ea_load.specs.declared.file_fault.FileFault.{FileFault}
use Rattle.ea_load.specs.declared.file_fault.FileFault.TheVariants as file
use Rattle.ea_load.specs.Files.{Extras, IsBorne, IsReadFaultAs, Reading}
use Rattle.ea_load.specs.Given.{Given}
use Rattle.ea_check.specs.Checked.{IsChecked, sources_of}
use Rattle.ea_check.specs.Form.{report_lines}
use Rattle.ea_check.specs.Streams.{IsWholeText, most_bytes}
use Rattle.ea_base.specs.declared.direction.Direction.{Direction}
use Rattle.ea_blocks.specs.Taking.{IsStopped}
use Rattle.ea_blocks.specs.declared.blocks.ReadFault.{ReadFault}
use Rattle.ea_road.specs.Roads.{Roads}
use Rattle.ea_road.specs.declared.source.Source.{Source}
use Rattle.ea_check.specs.declared.fault.CheckFault.{CheckFault}
use Rattle.ea_load.specs.Asked.{AreAllRead, AreAsked, AreSound, Files, HasLateStart, IsFault}
use Rattle.ea_load.specs.declared.answer_fault.AnswerFault.{AnswerFault}
use Rattle.ea_load.specs.declared.answer_fault.AnswerFault.TheVariants.{Read, Input, BadOption, Write, OutOfMemory}
use Rattle.ea_options.specs.declared.options.RunOptions.{RunOptions}
use Rattle.earliest.specs.Runs.{run_asks}

-- A report was read to its end, as its bytes came.
pub record IsReadWhole (report : Reading) (text : List ℕ) : Type 0 where
  pub is_text : IsWholeText report.old report.new text
  pub end : IsAtEnd report.new.bytes

-- Why a report wasn't: its device gave up, or memory was refused.
abbrev pub IsReportFault : Reading → FileFault → Type 0
IsReportFault report fault = (found : ReadFault) × IsReadFaultAs Report found fault × IsStopped most_bytes report.old report.new found

-- The verdict on a report of these searches, which run in a direction.
abbrev pub HasReport : Direction → Roads → (ℕ → ℕ → ℕ → ℕ → Type 0) → List (List Source) → Reading → Result (Unit {0}) CheckFault → Type 0
HasReport way roads answers queries report verdict = (text : List ℕ) × IsReadWhole report text × IsChecked roads answers queries (report_lines way text) verdict

-- The files of a run denote something.
abbrev pub DenoteSome : RunOptions → Files → Type 0
DenoteSome options files = (given : Given) × (found : List ℕ) × (extras : Extras) × AreSound (run_asks options) files given found extras

-- All files were read, all departures are within the horizon, and this is the verdict on the report's text.
pub record IsJudged (options : RunOptions) (files : Files) (report : Reading) (verdict : Result (Unit {0}) CheckFault) : Type 0 where
  pub text : List ℕ
  pub whole : IsReadWhole report text
  pub checked : AreAsked (run_asks options) files (λ nodes roads answers problems. IsChecked roads answers (sources_of problems) (report_lines options.direction text) verdict)

-- The first fault of the files in their order: that of a file of the run, or, if these have none, of the
-- report.
pub data IsFirstAtFault (options : RunOptions) (files : Files) (report : Reading) (fault : FileFault) : Type 0 where
  in_run : IsFault (run_asks options) files fault → IsFirstAtFault options files report fault
  in_report : DenoteSome options files → IsReportFault report fault → IsFirstAtFault options files report fault

-- Why there is no verdict on a report: the first fault of the files; or a departure beyond the horizon, with
-- all files read; or refused memory, in a file or after all were read. Nothing is ever written.
abbrev pub IsUnjudged : RunOptions → Files → Reading → AnswerFault → Type 0
IsUnjudged options files report (Read word fault) = IsFirstAtFault options files report (file.Read word fault)
IsUnjudged options files report (Input word fault) = IsFirstAtFault options files report (file.Input word fault)
IsUnjudged options files report BadOption = HasLateStart (run_asks options) files × ((text : List ℕ) × IsReadWhole report text)
IsUnjudged options files report (Write written) = ⊥
IsUnjudged options files report (OutOfMemory written) =
    (written ≡ 0) × (IsFirstAtFault options files report file.OutOfMemory ⊎ (AreAllRead files × IsBorne report))

-- The verdict on a report, or why there is none.
pub record IsVerdictOn (options : RunOptions) (files : Files) (report : Reading) (result : Result (Result (Unit {0}) CheckFault) AnswerFault) : Type 0 where
  pub judged : IfOk result (IsJudged options files report)
  pub unjudged : IfErr result (IsUnjudged options files report)
