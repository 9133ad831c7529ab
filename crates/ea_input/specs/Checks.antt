-- The checks of a text in their order, the same for all four files.
use Rattle.std.specs.Prelude.{◌≡◌, ◌⊎◌, ℕ, ◌+◌, ◌&&◌, ◌||◌, not, Bool, true, false, List, [], ◌∷◌, ◌++◌, length, codes, nat_lt, nat_le, ◌==◌, find, count_by, unwrap_or, is_some, is_none, if◌then◌else◌, Option, Some, None}
use Rattle.std.specs.Option.{option_map_or}
use Rattle.std.specs.List.{list_all, list_any}
use Rattle.std.specs.Str.{bytes_eq}
use Rattle.ea_bytes.specs.Text.{number_of, is_silent}
use Rattle.ea_blocks.specs.Fault.{out_of_memory}
use Rattle.ea_input.specs.StepLines.{Run, no_run, with_step}
use Rattle.ea_blocks.specs.declared.fault.FaultKind.{FaultKind}
use Rattle.ea_blocks.specs.declared.fault.FaultKind.TheVariants.{NoProblemLine, SecondProblemLine, UnknownLine, FieldCount, BadNumber, OutOfRange, TooManyLines, TooFewLines, BadKind}
use Rattle.ea_blocks.specs.declared.fault.InputFault.{InputFault}

-- A line is the list of its fields.
abbrev pub Line : Type 0
Line = List (List ℕ)

-- ---- fields

-- A field is a number.
abbrev pub is_number : List ℕ → Bool
is_number field = is_some (number_of field)

-- The number that a field is.
abbrev pub value_of : List ℕ → ℕ
value_of field = unwrap_or (number_of field) 0

-- The number of a field lies in a range.
abbrev pub lies_in : ℕ → ℕ → List ℕ → Bool
lies_in low high field = nat_le low (value_of field) && nat_le (value_of field) high

-- The first field of a line is this word.
abbrev pub begins_with : List ℕ → Line → Bool
begins_with word [] = false
begins_with word (first ∷ others) = bytes_eq first word

-- The word that a line begins with.
abbrev pub first_word : Line → List ℕ
first_word [] = []
first_word (first ∷ others) = first

-- Fields begin with these words, as far as there are fields.
abbrev pub words_fit : List (List ℕ) → Line → Bool
words_fit [] fields = true
words_fit (word ∷ words) [] = true
words_fit (word ∷ words) (field ∷ fields) = bytes_eq field word && words_fit words fields

-- ---- what came before a line

-- The class whose steps a line `k J NAME P N` announces.
abbrev pub run_begun : Line → Run
run_begun (k ∷ j ∷ name ∷ p ∷ n ∷ []) =
    if bytes_eq name (codes "speeds") then record { class = record { trips = false; period = value_of p; count = value_of n }; steps = [] } else
    (if bytes_eq name (codes "trips") then record { class = record { trips = true; period = value_of p; count = value_of n }; steps = [] } else
    (if bytes_eq name (codes "points") then record { class = record { trips = true; period = value_of p; count = value_of n }; steps = [] } else no_run))
run_begun _ = no_run

-- The same after the step of a line `v T X`.
abbrev pub run_told : Run → Line → Run
run_told run (v ∷ t ∷ x ∷ []) = with_step run (value_of t, value_of x)
run_told run _ = run

-- The class whose steps were read last, after one more line, and after some lines.
abbrev pub run_after : Run → Line → Run
run_after run line = if begins_with (codes "k") line then run_begun line else (if begins_with (codes "v") line then run_told run line else run)

abbrev pub run_of_lines : Run → List Line → Run
run_of_lines run [] = run
run_of_lines run (line ∷ lines) = run_of_lines (run_after run line) lines

-- The problem line, how many lines begin with a word, and the class whose steps were read last.
pub record Before : Type 0 where
  pub problem : Option Line
  pub count : List ℕ → ℕ
  pub run : Run

abbrev pub before_of : List Line → Before
before_of lines = record {
  problem = find (begins_with (codes "p")) lines;
  count = λ word. count_by (begins_with word) lines;
  run = run_of_lines no_run lines;
}

-- ---- the checks

-- What a file asks of its lines: the words that lines other than the problem line begin with; which
-- of them are lines of steps, and how many of these are due before any other line; that the kind
-- words in it are those asked; how many fields there are; which of them are numbers;
-- whether each of these is in its range; and how many lines of a word the problem line announces.
pub record Format : Type 0 where
  pub words : List (List ℕ)
  pub is_step : Line → Bool
  pub due : Before → ℕ
  pub kind_fits : Line → Bool
  pub field_count : Line → ℕ
  pub numbers : Line → List (List ℕ)
  pub in_range : Before → Line → List Bool
  pub announced : Line → List ℕ → ℕ

-- How many lines of a word were announced.
abbrev pub announced_before : Format → Before → List ℕ → ℕ
announced_before format before word = option_map_or (λ problem. format.announced problem word) before.problem 0

-- The checks of a line: whether it fails, and which fault it is then.
abbrev pub line_checks : Format → Before → Line → List (Bool × FaultKind)
line_checks format before line =
    let is_problem = begins_with (codes "p") line in
    (not (is_problem || list_any (λ word. begins_with word line) format.words), UnknownLine)
    ∷ (not is_problem && is_none before.problem, NoProblemLine)
    ∷ (is_problem && is_some before.problem, SecondProblemLine)
    ∷ (not (format.is_step line) && nat_lt 0 (format.due before), TooFewLines)
    ∷ (format.is_step line && nat_le (format.due before) 0, TooManyLines)
    ∷ (not (format.kind_fits line), BadKind)
    ∷ (not (length line == format.field_count line), FieldCount)
    ∷ (not (list_all is_number (format.numbers line)), BadNumber)
    ∷ (not (list_all (λ fits. fits) (format.in_range before line)), OutOfRange)
    ∷ (not (format.is_step line || is_problem) && nat_le (announced_before format before (first_word line)) (before.count (first_word line)), TooManyLines)
    ∷ []

-- The checks at the end of a text.
abbrev pub end_checks : Format → Before → List (Bool × FaultKind)
end_checks format before =
    (is_none before.problem, NoProblemLine)
    ∷ (list_any (λ word. nat_lt (before.count word) (announced_before format before word)) format.words, TooFewLines)
    ∷ (nat_lt 0 (format.due before), TooFewLines)
    ∷ []

-- The first check that fails.
abbrev pub first_failing : List (Bool × FaultKind) → Option FaultKind
first_failing [] = None
first_failing (check ∷ checks) = if check.0 then Some check.1 else first_failing checks

-- The fault of a line after others; a line that says nothing has none.
unfoldable pub line_fault : Format → Before → Line → Option FaultKind
line_fault format before line = if is_silent line then None else first_failing (line_checks format before line)

-- The fault at the end of lines.
unfoldable pub end_fault : Format → Before → Option FaultKind
end_fault format before = first_failing (end_checks format before)

-- ---- the fault of a text

-- No line has a fault, each seen after those before it.
abbrev pub NoLineHasFault : Format → List Line → Type 0
NoLineHasFault format lines = (before after : List Line) (line : Line) → lines ≡ before ++ line ∷ after → line_fault format (before_of before) line ≡ None

-- A fault is that of the first line that has one.
pub record IsLineFault (format : Format) (lines : List Line) (fault : InputFault) : Type 0 where
  pub before : List Line
  pub line : Line
  pub after : List Line
  pub cut : lines ≡ before ++ line ∷ after
  pub first : NoLineHasFault format before
  pub fails : line_fault format (before_of before) line ≡ Some fault.kind
  pub counted : fault.line ≡ length before + 1

-- No line has a fault, and this is the fault at the end of the text.
pub record IsEndFault (format : Format) (lines : List Line) (fault : InputFault) : Type 0 where
  pub sound : NoLineHasFault format lines
  pub fails : end_fault format (before_of lines) ≡ Some fault.kind
  pub whole : fault.line ≡ 0

-- The fault of a text: that of the first line that has one, else that at the end.
abbrev pub IsFaultOf : Format → List Line → InputFault → Type 0
IsFaultOf format lines fault = IsLineFault format lines fault ⊎ IsEndFault format lines fault

-- A fault that is reported: the text's, or refused memory.
abbrev pub IsFaultTold : Format → List Line → InputFault → Type 0
IsFaultTold format lines fault = (fault ≡ out_of_memory) ⊎ IsFaultOf format lines fault
