-- Assignments and steps that were read by their numbers are read as their fields are.
use Rattle.std.proofs.Common.{◌≡◌, ℕ, ◌<◌, refl, ap, sym, subst, ◌∙◌, List, [], ◌∷◌, length, inl, inr}
use Rattle.std.specs.Prelude.{Option, Some, None, Result, Ok, Err, IfOk, codes}
use Rattle.std.specs.Borrow.{Bor}
use Rattle.std.specs.Str.Lines.{strip_carriage_return}
use Rattle.ea_bytes.specs.Text.{fields_of, lines_of}
use Rattle.ea_blocks.specs.Fault.{numeral}
use Rattle.ea_input.specs.Ahead.{PairThen}
use Rattle.ea_input.specs.StepLines.{Run, step_of, step_read}
use Rattle.ea_input.specs.Table.{TableRead, run_in, due_in, two_read, assigned_of, assigned_line, step_line, table_line, numbers_line, step_numbers_line, after_said, table_step}
use Rattle.ea_blocks.specs.Reading.{GivesLine, ReadsFront}
use Rattle.ea_input.proofs.Quick.{numeral_is}
use Rattle.ea_blocks.specs.declared.fault.FaultKind.{FaultKind}
use Rattle.ea_input.specs.declared.timetable.TableLine.{TableLine}
use Rattle.ea_input.specs.declared.timetable.TableSize.{TableSize}

entry_line_is : (arcs : ℕ) (size : Option TableSize) (due count : ℕ) (e j : List ℕ) (arc class : ℕ) → numeral e ≡ Ok arc → numeral j ≡ Ok class → assigned_line arcs size due count (e ∷ j ∷ []) ≡ numbers_line arcs size due count (arc, class)
unfolding assigned_line assigned_of two_read numbers_line
entry_line_is arcs None due count e j arc class p q = refl
entry_line_is arcs (Some size) due count e j arc class p q = rw (p, q) refl

step_line_is : (size : Option TableSize) (run : Run) (t x : List ℕ) (time value : ℕ) → numeral t ≡ Ok time → numeral x ≡ Ok value → step_line size run (t ∷ x ∷ []) ≡ step_numbers_line size run (time, value)
unfolding step_line step_of step_read step_numbers_line
step_line_is None run t x time value p q = refl
step_line_is (Some size) run t x time value p q = rw (p, q) refl

-- What is said of a line that was read by its numbers, in the words of its fields.
pub entry_said : (read : TableRead) (e j : List ℕ) (arc class : ℕ) → numeral e ≡ Ok arc → numeral j ≡ Ok class → table_line read (codes "t" ∷ e ∷ j ∷ []) ≡ numbers_line read.arcs read.size (due_in read) (length read.table.assigned) (arc, class)
unfolding table_line
entry_said read e j arc class p q = entry_line_is read.arcs read.size (due_in read) (length read.table.assigned) e j arc class p q

pub step_said : (read : TableRead) (t x : List ℕ) (time value : ℕ) → numeral t ≡ Ok time → numeral x ≡ Ok value → table_line read (codes "v" ∷ t ∷ x ∷ []) ≡ step_numbers_line read.size (run_in read.table) (time, value)
unfolding table_line
step_said read t x time value p q = step_line_is read.size (run_in read.table) t x time value p q

-- A line of a word and two numbers says this, however its numbers are written.
abbrev pub SaysOf : TableRead → List ℕ → ℕ → ℕ → Result TableLine FaultKind → Type 0
SaysOf read word first second said = (a b : List ℕ) → numeral a ≡ Ok first → numeral b ≡ Ok second → table_line read (word ∷ a ∷ b ∷ []) ≡ said

line_is : (read : TableRead) (word text : List ℕ) (first second : ℕ) (rest : List ℕ) (said : Result TableLine FaultKind) (pair : PairThen word text first second rest) → SaysOf read word first second said → table_step read (fields_of (strip_carriage_return pair.line)) ≡ after_said read said
unfolding table_step
line_is read word text first second rest said pair is =
    ap (λ fields. after_said read (table_line read fields)) pair.fields
    ∙ ap (after_said read) (is pair.first_field pair.second_field (numeral_is pair.first_field first pair.first_is.0 pair.first_is.1) (numeral_is pair.second_field second pair.second_is.0 pair.second_is.1))

-- The line of these numbers at the front of a text was read, and what came of it.
pub read_front : (read after : TableRead) (word text : List ℕ) (first second : ℕ) (rest : List ℕ) (said : Result TableLine FaultKind) (result : Result (Bor (List ℕ)) FaultKind) → PairThen word text first second rest → SaysOf read word first second said
    → GivesLine (λ (_ : Bor (List ℕ)). after) result (after_said read said) → IfOk result (λ r. r.now ≡ rest) → ReadsFront table_step text read after result
read_front read after word text first second rest said (Ok r) pair is gives behind =
    (pair.line, pair.cut ∙ ap (λ (t : List ℕ). pair.line ∷ lines_of t) (sym behind), subst (λ (t : List ℕ). length t < length text) (sym behind) pair.shorter, line_is read word text first second rest said pair is ∙ gives)
read_front read after word text first second rest said (Err kind) pair is (inl refused) behind = (pair.line, rest, pair.cut, inl refused)
read_front read after word text first second rest said (Err kind) pair is (inr done) behind = (pair.line, rest, pair.cut, inr (line_is read word text first second rest said pair is ∙ done))
