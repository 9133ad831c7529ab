-- The text of a timetable.
use Rattle.std.specs.Prelude.{false, true, ◌≡◌, ◌⊎◌, ℕ, ◌+◌, ◌-◌, List, [], ◌∷◌, ◌++◌, length, drop, ◌<◌, codes, nat_lt, if◌then◌else◌, Option, Some, None, Result, Ok, Err}
use Rattle.std.specs.Str.{bytes_eq}
use Rattle.std.specs.Option.{ok_or}
use Rattle.ea_base.specs.declared.limits.TheConstants.{HORIZON, MOST_ARCS, MOST_CLASSES, MOST_PERIOD, MOST_STEPS}
use Rattle.ea_bytes.specs.Text.{is_comment, speaking}
use Rattle.ea_blocks.specs.Fault.{◌>>=◌, numeral, within}
use Rattle.ea_input.specs.Range.{IsNumberIn}
use Rattle.ea_blocks.specs.Reading.{text_after}
use Rattle.ea_input.specs.Listing.{after_kinds}
use Rattle.ea_input.specs.StepLines.{Run, no_run, due, IsStepLine, step_within, step_of}
use Rattle.ea_input.specs.declared.step_lines.StepClass.{StepClass}
use Rattle.ea_blocks.specs.declared.fault.FaultKind.{FaultKind}
use Rattle.ea_blocks.specs.declared.fault.FaultKind.TheVariants.{NoProblemLine, SecondProblemLine, UnknownLine, FieldCount, TooManyLines, TooFewLines, BadKind}
use Rattle.ea_blocks.specs.declared.fault.InputFault.{InputFault}
use Rattle.ea_base.specs.declared.timetable.RawKind.{RawKind}
use Rattle.ea_base.specs.declared.timetable.RawKind.TheVariants.{Plain, Every, Closed, Rush, Speeds, Trips, Points}
use Rattle.ea_input.specs.declared.timetable.TableSize.{TableSize}
use Rattle.ea_input.specs.declared.timetable.TableLine.{TableLine}
use Rattle.ea_input.specs.declared.timetable.TableLine.TheVariants.{Silent, Problem, Kind, Assigned, Step}

-- A timetable without its place in memory: its kinds, numbered from 1 on, which arcs have which, in the order of the lines,
-- and the steps of all kinds that have some, in one list.
pub record Table : Type 0 where
  pub kinds : List RawKind
  pub assigned : List (ℕ × ℕ)
  pub steps : List (ℕ × ℕ)

abbrev pub nothing : Table
nothing = record { kinds = []; assigned = []; steps = [] }

abbrev pub with_kind : Table → RawKind → Table
with_kind table kind = record table { kinds = table.kinds ++ kind ∷ [] }

abbrev pub with_entry : Table → ℕ × ℕ → Table
with_entry table entry = record table { assigned = table.assigned ++ entry ∷ [] }

abbrev pub with_step : Table → ℕ × ℕ → Table
with_step table step = record table { steps = table.steps ++ step ∷ [] }

-- ---- the steps of a kind

-- The class whose steps follow a kind's line.
abbrev pub class_of : RawKind → StepClass
class_of (Speeds period first count) = record { trips = false; period = period; count = count }
class_of (Trips period first count) = record { trips = true; period = period; count = count }
class_of (Points period first count) = record { trips = true; period = period; count = count }
class_of kind = no_run.class

-- The steps from a kind's first one on.
abbrev pub steps_from : RawKind → List (ℕ × ℕ) → List (ℕ × ℕ)
steps_from (Speeds period first count) steps = drop first steps
steps_from (Trips period first count) steps = drop first steps
steps_from (Points period first count) steps = drop first steps
steps_from kind steps = []

abbrev pub last_kind : List RawKind → RawKind
last_kind [] = Plain
last_kind (kind ∷ []) = kind
last_kind (kind ∷ other ∷ kinds) = last_kind (other ∷ kinds)

-- The last kind's class, and those of its steps that were read so far.
abbrev pub run_of : List RawKind → List (ℕ × ℕ) → Run
run_of kinds steps = record { class = class_of (last_kind kinds); steps = steps_from (last_kind kinds) steps }

abbrev pub run_in : Table → Run
run_in table = run_of table.kinds table.steps

-- WHAT A TEXT DENOTES

-- A line `p tp K T` that announces this many kinds and assignments.
abbrev pub IsTableProblem : List (List ℕ) → ℕ → ℕ → Type 0
IsTableProblem (word ∷ tp ∷ k ∷ t ∷ []) kinds assigned =
    (word ≡ codes "p") × (tp ≡ codes "tp") × IsNumberIn 0 MOST_CLASSES k kinds × IsNumberIn 0 MOST_ARCS t assigned
IsTableProblem _ kinds assigned = ⊥

-- The fields from a kind's word on are this kind, whose steps begin behind this many others.
abbrev pub IsKind : ℕ → List (List ℕ) → RawKind → Type 0
IsKind before (name ∷ []) Plain = name ≡ codes "plain"
IsKind before (name ∷ p ∷ o ∷ []) (Every period offset) = (name ≡ codes "every") × IsNumberIn 1 MOST_PERIOD p period × IsNumberIn 0 (period - 1) o offset
IsKind before (name ∷ b ∷ e ∷ []) (Closed lo hi) = (name ≡ codes "closed") × IsNumberIn 0 (HORIZON - 1) b lo × IsNumberIn (lo + 1) HORIZON e hi
IsKind before (name ∷ b ∷ e ∷ x ∷ []) (Rush lo hi extra) =
    (name ≡ codes "rush") × IsNumberIn 0 (HORIZON - 1) b lo × IsNumberIn (lo + 1) HORIZON e hi × IsNumberIn 0 MOST_PERIOD x extra
IsKind before (name ∷ p ∷ n ∷ []) (Speeds period first count) =
    (name ≡ codes "speeds") × IsNumberIn 1 MOST_PERIOD p period × IsNumberIn 1 MOST_STEPS n count × (first ≡ before)
IsKind before (name ∷ p ∷ n ∷ []) (Trips period first count) =
    (name ≡ codes "trips") × IsNumberIn 0 MOST_PERIOD p period × IsNumberIn 1 MOST_STEPS n count × (first ≡ before)
IsKind before (name ∷ p ∷ n ∷ []) (Points period first count) =
    (name ≡ codes "points") × IsNumberIn 0 MOST_PERIOD p period × IsNumberIn 1 MOST_STEPS n count × (first ≡ before)
IsKind before _ kind = ⊥

-- A line `k J ..` of the kind with this number, behind this many steps.
abbrev pub IsKindLine : ℕ → ℕ → List (List ℕ) → RawKind → Type 0
IsKindLine number before (word ∷ j ∷ fields) kind = (word ≡ codes "k") × IsNumberIn number number j number × IsKind before fields kind
IsKindLine number before _ kind = ⊥

-- A line `t E J` that gives an arc and a class, each within its count, the class also 0.
abbrev pub IsAssignedLine : ℕ → ℕ → List (List ℕ) → ℕ × ℕ → Type 0
IsAssignedLine arcs classes (word ∷ e ∷ j ∷ []) entry = (word ≡ codes "t") × IsNumberIn 1 arcs e entry.0 × IsNumberIn 0 classes j entry.1
IsAssignedLine arcs classes _ entry = ⊥

-- What one more line makes of a timetable: if no step of the last kind is due, one more kind or one more assignment; if
-- one is due, that step.
abbrev pub IsTableAfter : ℕ → ℕ → Table → List (List ℕ) → Table → Type 0
IsTableAfter arcs classes table line next =
    ((due (run_in table) ≡ 0) × ((kind : RawKind) × IsKindLine (length table.kinds + 1) (length table.steps) line kind × (next ≡ with_kind table kind)))
    ⊎ (((due (run_in table) ≡ 0) × ((entry : ℕ × ℕ) × IsAssignedLine arcs classes line entry × (next ≡ with_entry table entry)))
    ⊎ ((0 < due (run_in table)) × ((step : ℕ × ℕ) × IsStepLine (run_in table) line step × (next ≡ with_step table step))))

-- What lines of kinds, of their steps and of assignments make of a timetable, each in its turn; no step is due at the end.
abbrev pub AreTableLines : ℕ → ℕ → Table → List (List (List ℕ)) → Table → Type 0
AreTableLines arcs classes table [] whole = (table ≡ whole) × (due (run_in table) ≡ 0)
AreTableLines arcs classes table (line ∷ lines) whole =
    (next : Table) × IsTableAfter arcs classes table line next × AreTableLines arcs classes next lines whole

-- Lines denote a timetable of a graph with this many arcs: but for those that say nothing they are one problem line and then the lines of its kinds, their
-- steps and its assignments.
pub record DenotesTable (arcs : ℕ) (lines : List (List (List ℕ))) (table : Table) : Type 0 where
  pub problem : List (List ℕ)
  pub others : List (List (List ℕ))
  pub speaks : speaking lines ≡ problem ∷ others
  pub announces : IsTableProblem problem (length table.kinds) (length table.assigned)
  pub lists : AreTableLines arcs (length table.kinds) nothing others table

-- HOW A READER GOES, STEP BY STEP (no public clause names it: what a text denotes is above, and its fault is `IsFaultOf` in Checks)

unfoldable pub size_read : List ℕ → List ℕ → Result TableSize FaultKind
size_read k t = do
  kinds ← numeral k
  assigned ← numeral t
  kinds ← within 0 MOST_CLASSES kinds
  assigned ← within 0 MOST_ARCS assigned
  Ok (record { kinds = kinds; assigned = assigned })

unfoldable pub size_of : List (List ℕ) → Result TableSize FaultKind
size_of (k ∷ t ∷ []) = size_read k t
size_of _ = Err FieldCount

-- The fields behind `p`, if no problem line came before.
unfoldable pub problem_line : Option TableSize → List (List ℕ) → Result TableLine FaultKind
problem_line (Some size) fields = Err SecondProblemLine
problem_line None fields = do
  numbers ← after_kinds (codes "tp" ∷ []) fields
  size ← size_of numbers
  Ok (Problem size)

-- Two fields as numbers.
unfoldable pub two_read : List ℕ → List ℕ → Result (ℕ × ℕ) FaultKind
two_read a b = do
  first ← numeral a
  second ← numeral b
  Ok (first, second)

-- From when to when a kind's rule holds.
unfoldable pub interval_within : ℕ → ℕ → Result (ℕ × ℕ) FaultKind
interval_within b e = do
  lo ← within 0 (HORIZON - 1) b
  hi ← within (lo + 1) HORIZON e
  Ok (lo, hi)

-- The number of a kind's line.
unfoldable pub numbered : ℕ → List ℕ → Result ℕ FaultKind
numbered number j = numeral j >>= λ n. within number number n

unfoldable pub plain_of : ℕ → List ℕ → List (List ℕ) → Result RawKind FaultKind
plain_of number j [] = numbered number j >>= λ n. Ok Plain
plain_of number j _ = Err FieldCount

unfoldable pub every_within : ℕ → ℕ → ℕ → ℕ → Result RawKind FaultKind
every_within number j p o = do
  j ← within number number j
  period ← within 1 MOST_PERIOD p
  offset ← within 0 (period - 1) o
  Ok (Every period offset)

unfoldable pub every_read : ℕ → List ℕ → List ℕ → List ℕ → Result RawKind FaultKind
every_read number j p o = do
  j ← numeral j
  numbers ← two_read p o
  every_within number j numbers.0 numbers.1

unfoldable pub every_of : ℕ → List ℕ → List (List ℕ) → Result RawKind FaultKind
every_of number j (p ∷ o ∷ []) = every_read number j p o
every_of number j _ = Err FieldCount

unfoldable pub closed_within : ℕ → ℕ → ℕ → ℕ → Result RawKind FaultKind
closed_within number j b e = do
  j ← within number number j
  interval ← interval_within b e
  Ok (Closed interval.0 interval.1)

unfoldable pub closed_read : ℕ → List ℕ → List ℕ → List ℕ → Result RawKind FaultKind
closed_read number j b e = do
  j ← numeral j
  numbers ← two_read b e
  closed_within number j numbers.0 numbers.1

unfoldable pub closed_of : ℕ → List ℕ → List (List ℕ) → Result RawKind FaultKind
closed_of number j (b ∷ e ∷ []) = closed_read number j b e
closed_of number j _ = Err FieldCount

unfoldable pub rush_within : ℕ → ℕ → ℕ → ℕ → ℕ → Result RawKind FaultKind
rush_within number j b e x = do
  j ← within number number j
  interval ← interval_within b e
  extra ← within 0 MOST_PERIOD x
  Ok (Rush interval.0 interval.1 extra)

unfoldable pub rush_read : ℕ → List ℕ → List ℕ → List ℕ → List ℕ → Result RawKind FaultKind
rush_read number j b e x = do
  j ← numeral j
  numbers ← two_read b e
  extra ← numeral x
  rush_within number j numbers.0 numbers.1 extra

unfoldable pub rush_of : ℕ → List ℕ → List (List ℕ) → Result RawKind FaultKind
rush_of number j (b ∷ e ∷ x ∷ []) = rush_read number j b e x
rush_of number j _ = Err FieldCount

-- A kind with steps, by its numbers; its steps begin behind this many others.
unfoldable pub speeds_within : ℕ → ℕ → ℕ → ℕ → ℕ → Result RawKind FaultKind
speeds_within number before j p n = do
  j ← within number number j
  period ← within 1 MOST_PERIOD p
  count ← within 1 MOST_STEPS n
  Ok (Speeds period before count)

unfoldable pub speeds_read : ℕ → ℕ → List ℕ → List ℕ → List ℕ → Result RawKind FaultKind
speeds_read number before j p n = do
  j ← numeral j
  numbers ← two_read p n
  speeds_within number before j numbers.0 numbers.1

unfoldable pub speeds_of : ℕ → ℕ → List ℕ → List (List ℕ) → Result RawKind FaultKind
speeds_of number before j (p ∷ n ∷ []) = speeds_read number before j p n
speeds_of number before j _ = Err FieldCount

unfoldable pub trips_within : ℕ → ℕ → ℕ → ℕ → ℕ → Result RawKind FaultKind
trips_within number before j p n = do
  j ← within number number j
  period ← within 0 MOST_PERIOD p
  count ← within 1 MOST_STEPS n
  Ok (Trips period before count)

unfoldable pub points_within : ℕ → ℕ → ℕ → ℕ → ℕ → Result RawKind FaultKind
points_within number before j p n = do
  j ← within number number j
  period ← within 0 MOST_PERIOD p
  count ← within 1 MOST_STEPS n
  Ok (Points period before count)

unfoldable pub trips_read : ℕ → ℕ → List ℕ → List ℕ → List ℕ → Result RawKind FaultKind
trips_read number before j p n = do
  j ← numeral j
  numbers ← two_read p n
  trips_within number before j numbers.0 numbers.1

unfoldable pub points_read : ℕ → ℕ → List ℕ → List ℕ → List ℕ → Result RawKind FaultKind
points_read number before j p n = do
  j ← numeral j
  numbers ← two_read p n
  points_within number before j numbers.0 numbers.1

unfoldable pub trips_of : ℕ → ℕ → List ℕ → List (List ℕ) → Result RawKind FaultKind
trips_of number before j (p ∷ n ∷ []) = trips_read number before j p n
trips_of number before j _ = Err FieldCount

unfoldable pub points_of : ℕ → ℕ → List ℕ → List (List ℕ) → Result RawKind FaultKind
points_of number before j (p ∷ n ∷ []) = points_read number before j p n
points_of number before j _ = Err FieldCount

-- The fields behind `k`, behind this many steps.
unfoldable pub kind_of : ℕ → ℕ → List (List ℕ) → Result RawKind FaultKind
kind_of number before [] = Err FieldCount
kind_of number before (j ∷ []) = Err FieldCount
kind_of number before (j ∷ name ∷ fields) =
    if bytes_eq name (codes "plain") then plain_of number j fields else
    (if bytes_eq name (codes "every") then every_of number j fields else
    (if bytes_eq name (codes "closed") then closed_of number j fields else
    (if bytes_eq name (codes "rush") then rush_of number j fields else
    (if bytes_eq name (codes "speeds") then speeds_of number before j fields else
    (if bytes_eq name (codes "trips") then trips_of number before j fields else
    (if bytes_eq name (codes "points") then points_of number before j fields else Err BadKind))))))

-- The fields behind `k`, after this many kinds and steps, while this many steps are due.
unfoldable pub kind_line : Option TableSize → ℕ → ℕ → ℕ → List (List ℕ) → Result TableLine FaultKind
kind_line None due count before fields = Err NoProblemLine
kind_line (Some size) due count before fields =
    if nat_lt 0 due then Err TooFewLines else
    (kind_of (count + 1) before fields >>= λ kind. if nat_lt count size.kinds then Ok (Kind kind) else Err TooManyLines)

unfoldable pub assigned_within : ℕ → ℕ → ℕ → ℕ → Result (ℕ × ℕ) FaultKind
assigned_within arcs classes e j = do
  arc ← within 1 arcs e
  class ← within 0 classes j
  Ok (arc, class)

unfoldable pub assigned_of : ℕ → ℕ → List (List ℕ) → Result (ℕ × ℕ) FaultKind
assigned_of arcs classes (e ∷ j ∷ []) = two_read e j >>= λ numbers. assigned_within arcs classes numbers.0 numbers.1
assigned_of arcs classes _ = Err FieldCount

-- The fields behind `t`, after this many assignments, while this many steps are due.
unfoldable pub assigned_line : ℕ → Option TableSize → ℕ → ℕ → List (List ℕ) → Result TableLine FaultKind
assigned_line arcs None due count fields = Err NoProblemLine
assigned_line arcs (Some size) due count fields =
    if nat_lt 0 due then Err TooFewLines else
    (assigned_of arcs size.kinds fields >>= λ entry. if nat_lt count size.assigned then Ok (Assigned entry) else Err TooManyLines)

-- The same of a line whose fields are numbers.
unfoldable pub numbers_line : ℕ → Option TableSize → ℕ → ℕ → ℕ × ℕ → Result TableLine FaultKind
numbers_line arcs None due count numbers = Err NoProblemLine
numbers_line arcs (Some size) due count numbers =
    if nat_lt 0 due then Err TooFewLines else
    (assigned_within arcs size.kinds numbers.0 numbers.1 >>= λ entry. if nat_lt count size.assigned then Ok (Assigned entry) else Err TooManyLines)

-- The fields behind `v`, after the steps so far.
unfoldable pub step_line : Option TableSize → Run → List (List ℕ) → Result TableLine FaultKind
step_line None run fields = Err NoProblemLine
step_line (Some size) run fields = if nat_lt 0 (due run) then (step_of run fields >>= λ step. Ok (Step step)) else Err TooManyLines

-- The same of a line whose fields are numbers.
unfoldable pub step_numbers_line : Option TableSize → Run → ℕ × ℕ → Result TableLine FaultKind
step_numbers_line None run numbers = Err NoProblemLine
step_numbers_line (Some size) run numbers = if nat_lt 0 (due run) then (step_within run numbers.0 numbers.1 >>= λ step. Ok (Step step)) else Err TooManyLines

-- What the lines so far say; arcs are numbered up to `arcs`.
pub record TableRead : Type 0 where
  pub arcs : ℕ
  pub size : Option TableSize
  pub table : Table

abbrev pub no_table : ℕ → TableRead
no_table arcs = record { arcs = arcs; size = None; table = nothing }

abbrev pub due_in : TableRead → ℕ
due_in read = due (run_in read.table)

-- What a line says after others; or its first fault.
unfoldable pub table_line : TableRead → List (List ℕ) → Result TableLine FaultKind
table_line read [] = Ok Silent
table_line read (first ∷ fields) =
    if is_comment first then Ok Silent else
    (if bytes_eq first (codes "p") then problem_line read.size fields else
    (if bytes_eq first (codes "k") then kind_line read.size (due_in read) (length read.table.kinds) (length read.table.steps) fields else
    (if bytes_eq first (codes "t") then assigned_line read.arcs read.size (due_in read) (length read.table.assigned) fields else
    (if bytes_eq first (codes "v") then step_line read.size (run_in read.table) fields else Err UnknownLine))))

abbrev pub with_line : TableRead → TableLine → TableRead
with_line read Silent = read
with_line read (Problem size) = record read { size = Some size }
with_line read (Kind kind) = record read { table = with_kind read.table kind }
with_line read (Assigned entry) = record read { table = with_entry read.table entry }
with_line read (Step step) = record read { table = with_step read.table step }

-- After what a line says.
unfoldable pub after_said : TableRead → Result TableLine FaultKind → Result TableRead FaultKind
after_said read said = said >>= λ line. Ok (with_line read line)

unfoldable pub table_step : TableRead → List (List ℕ) → Result TableRead FaultKind
table_step read fields = after_said read (table_line read fields)

-- The timetable at the end of the text.
unfoldable pub table_end : TableRead → Result Table FaultKind
table_end read = ok_or read.size NoProblemLine >>= λ size.
    if nat_lt (length read.table.kinds) size.kinds then Err TooFewLines else
    (if nat_lt (length read.table.assigned) size.assigned then Err TooFewLines else
    (if nat_lt 0 (due_in read) then Err TooFewLines else Ok read.table))

-- What a reader finds: the timetable of a text, or a fault.
abbrev pub table_of : ℕ → List (List (List ℕ)) → Result Table InputFault
table_of arcs lines = text_after table_step table_end (no_table arcs) lines
