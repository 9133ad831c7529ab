-- The lines of a report whose bytes come from a device.
use Rattle.std.specs.Prelude.{◌≡◌, ℕ, ◌+◌, ◌-◌, ◌<◌, ◌≤◌, ◌^◌, Bool, true, false, if◌then◌else◌, List, [], ◌∷◌, ◌++◌, length, drop, Option, Some, None, IfSome}
use Rattle.std.specs.Io.KnownBytes.{IsAtEnd}
use Rattle.ea_base.specs.declared.direction.Direction.{Direction}
use Rattle.ea_bytes.specs.Device.{Seen, BearsOn}
use Rattle.ea_blocks.specs.Taking.{HasRoom, IsTakenBy}
use Rattle.ea_bytes.specs.Text.{field_lines, fields_of, lines_of}
use Rattle.ea_check.specs.declared.form.report_lines.ReportLines.{ReportLines}
use Rattle.ea_check.specs.declared.form.report_lines.SpokenLine.{SpokenLine}
use Rattle.ea_check.specs.Form.{Line, report_lines, spoken_from}
use Rattle.ea_check.specs.Shared.{part}

-- The most bytes of a report: a count of 64 bits.
abbrev pub most_bytes : ℕ
most_bytes = 2 ^ 64 - 1

-- A text is all bytes that a device had, and the device did not give up.
pub record IsWholeText (old new : Seen) (text : List ℕ) : Type 0 where
  pub all : IfSome old.bytes (λ had. text ≡ had)
  pub few : length text < 2 ^ 64
  pub borne : BearsOn old new

-- WHAT IS LEFT OF A REPORT

-- The bytes that were taken from the device and not read.
abbrev pub rest_of : ReportLines → List ℕ
rest_of lines = drop lines.start lines.block.items

-- The most bytes that are left, those of the device included.
abbrev pub size_left : ReportLines → ℕ
size_left lines = (length lines.block.items - lines.start) + lines.blocks.left

-- The most calls of the device that give further bytes or its end.
abbrev pub calls_left : ReportLines → ℕ
calls_left lines = lines.blocks.left + (if lines.ended then 0 else 1)

abbrev pub line_of : SpokenLine → Line
line_of line = record { number = line.number; fields = fields_of line.text.now; way = line.way }

-- The last line that was read.
abbrev pub last_of : ReportLines → List ℕ
last_of lines = part lines.block.items lines.from lines.to

-- The last line that was read is in the block.
pub record HasLast (lines : ReportLines) : Type 0 where
  pub in_order : lines.from ≤ lines.to
  pub inside : lines.to ≤ length lines.block.items

-- The line that was found.
abbrev pub spoken : ReportLines → Option Line
spoken lines = if lines.found then Some (record { number = lines.count; fields = fields_of (last_of lines); way = lines.way }) else None

-- A line, if there is one, and those behind it.
abbrev pub found_then : Option Line → List Line → List Line
found_then None behind = []
found_then (Some line) behind = line ∷ behind

-- The lines of a text behind those that were read.
abbrev pub behind : ReportLines → List ℕ → List Line
behind lines text = spoken_from lines.way (lines.count + 1) (field_lines text)

-- The line that was found, and those of the text behind it.
abbrev pub ahead : ReportLines → List ℕ → List Line
ahead lines text = found_then (spoken lines) (behind lines text)

-- HOW LINES ARE READ

pub record IsReady (lines : ReportLines) : Type 0 where
  pub room : HasRoom lines.blocks
  pub inside : lines.start ≤ length lines.block.items
  pub few : lines.count + size_left lines < 2 ^ 64
  pub last : HasLast lines

-- No byte was read.
pub record IsUnread (way : Direction) (lines : ReportLines) : Type 0 where
  pub ready : IsReady lines
  pub taken : (first : Seen) → IsTakenBy lines.blocks most_bytes first first []
  pub rest : rest_of lines ≡ []
  pub ended : lines.ended ≡ false
  pub count : lines.count ≡ 0
  pub way_is : lines.way ≡ way

-- And a line that was found has a number; if none was, none is left.
pub record IsSound (lines : ReportLines) : Type 0 where
  pub ready : IsReady lines
  pub number : lines.found ≡ true → 0 < lines.count
  pub none : lines.found ≡ false → lines.ended ≡ true

-- Reading leads from one state to another, and takes bytes from the device. Whatever the device gives later,
-- this holds of the text that was left before and of that which is left after.
pub record Leads (Holds : List ℕ → List ℕ → Type 0) (old : Seen) (before : ReportLines) (new : Seen) (after : ReportLines) : Type 0 where
  pub got : List ℕ
  pub room : HasRoom after.blocks
  pub taken : (limit : ℕ) (first : Seen) (bytes : List ℕ) → IsTakenBy before.blocks limit first old bytes → IsTakenBy after.blocks limit first new (bytes ++ got)
  pub ended : before.ended ≡ true → (after.ended ≡ true) × (got ≡ [])
  pub end : (before.ended ≡ true → IsAtEnd old.bytes) → after.ended ≡ true → IsAtEnd new.bytes
  pub holds : (later : List ℕ) → (after.ended ≡ true → later ≡ []) → Holds (rest_of before ++ (got ++ later)) (rest_of after ++ later)

-- The same of the lines that were left.
abbrev pub LeadsTo : (List Line → List Line → Type 0) → Seen → ReportLines → Seen → ReportLines → Type 0
LeadsTo Holds old before new after = Leads (λ text next. Holds (ahead before text) (ahead after next)) old before new after

-- Bytes were taken from the device, and none was read.
pub record GetsMore (old : Seen) (before : ReportLines) (new : Seen) (after : ReportLines) : Type 0 where
  pub ready : IsReady after
  pub leads : Leads (λ text next. text ≡ next) old before new after
  pub size : size_left after ≡ size_left before

-- A text begins with a line, whatever follows the text.
abbrev pub BeginsWithLine : List ℕ → List ℕ → List ℕ → Type 0
BeginsWithLine text line rest = (more : List ℕ) → lines_of (text ++ more) ≡ line ∷ lines_of (rest ++ more)

-- One line of a text was read, or the text has none.
abbrev pub TakesLine : Bool → List ℕ → List ℕ → List ℕ → Type 0
TakesLine true line text next = field_lines text ≡ fields_of line ∷ field_lines next
TakesLine false line text next = (text ≡ []) × (next ≡ [])

-- The next line that says something was found.
abbrev pub FindsLine : ReportLines → ReportLines → List ℕ → List ℕ → Type 0
FindsLine before after text next = behind before text ≡ ahead after next

-- The rest of a device was read.
pub record Skips (old : Seen) (before : ReportLines) (new : Seen) (after : ReportLines) : Type 0 where
  pub got : List ℕ
  pub taken : (limit : ℕ) (first : Seen) (bytes : List ℕ) → IsTakenBy before.blocks limit first old bytes → IsTakenBy after.blocks limit first new (bytes ++ got)
  pub ended : before.ended ≡ true → got ≡ []
  pub end : (before.ended ≡ true → IsAtEnd old.bytes) → IsAtEnd new.bytes

-- The first line of a device's text was found.
pub record Begins (way : Direction) (limit : ℕ) (first now : Seen) (lines : ReportLines) : Type 0 where
  pub got : List ℕ
  pub taken : IsTakenBy lines.blocks limit first now got
  pub end : lines.ended ≡ true → IsAtEnd now.bytes
  pub begins : (later : List ℕ) → (lines.ended ≡ true → later ≡ []) → report_lines way (got ++ later) ≡ ahead lines (rest_of lines ++ later)
