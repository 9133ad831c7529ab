-- Lines of nodes that have a `d` line alone, one after another.
use Rattle.std.specs.Prelude.{◌≡◌, ◌⊎◌, ℕ, zero, suc, ◌+◌, ◌<◌, ◌≤◌, true, List, [], ◌∷◌, ◌++◌, length, take, Some, None}
use Rattle.std.specs.Str.{all_ascii_digits}
use Rattle.ea_base.specs.declared.direction.Direction.{Direction}
use Rattle.ea_bytes.specs.Text.{field_lines, number_of}
use Rattle.ea_check.specs.Form.{IsTime, SaysTime, none_word, spoken_from}
use Rattle.ea_check.specs.Reads.{NoWalkNext}
use Rattle.ea_check.specs.Verdicts.{Said}

-- A text begins with this number and this byte, and the rest follows.
pub record NumberThen (text : List ℕ) (stop value : ℕ) (rest : List ℕ) : Type 0 where
  pub field : List ℕ
  pub cut : text ≡ field ++ stop ∷ rest
  pub digits : all_ascii_digits field ≡ true
  pub some : 0 < length field
  pub number : number_of field ≡ Some value

-- A text begins with a time, or the word in its place, and a line feed, and the rest follows.
pub record TimeThen (way : Direction) (text : List ℕ) (time : ℕ) (rest : List ℕ) : Type 0 where
  pub field : List ℕ
  pub cut : text ≡ field ++ 10 ∷ rest
  pub plain : (all_ascii_digits field ≡ true) ⊎ (field ≡ none_word way)
  pub some : 0 < length field
  pub is_time : IsTime way field time

-- The fields of lines say the times of nodes, from this one on.
abbrev pub SayTimes : Direction → ℕ → List ℕ → List (List (List ℕ)) → Type 0
SayTimes way node [] [] = Unit {0}
SayTimes way node [] (fields ∷ lines) = ⊥
SayTimes way node (time ∷ times) [] = ⊥
SayTimes way node (time ∷ times) (fields ∷ lines) = SaysTime way fields node time × SayTimes way (node + 1) times lines

-- A text is lines that say the times of nodes, from this one on, whatever follows the text.
pub record IsRun (way : Direction) (node : ℕ) (times text : List ℕ) : Type 0 where
  pub lines : List (List (List ℕ))
  pub reads : (more : List ℕ) → field_lines (text ++ more) ≡ lines ++ field_lines more
  pub say : SayTimes way node times lines
  pub few : length times ≤ length text

-- The first bytes of a text, at least one, are a line that says a node's time.
pub record TakesTime (way : Direction) (node time : ℕ) (text : List ℕ) (bytes : ℕ) : Type 0 where
  pub some : 0 < bytes
  pub inside : bytes ≤ length text
  pub run : IsRun way node (time ∷ []) (take bytes text)

-- The first line of a text that says something doesn't begin with `w`, whatever follows the text.
abbrev pub BeginsWithNoWalk : Direction → List ℕ → Type 0
BeginsWithNoWalk way text = (more : List ℕ) (number : ℕ) → NoWalkNext (spoken_from way number (field_lines (text ++ more)))

-- What is said of nodes without walks, whose lines follow each other from this one on.
abbrev pub saids : ℕ → List ℕ → List Said
saids number [] = []
saids number (time ∷ times) = record { line = number; time = time; walk = None } ∷ saids (number + 1) times

-- This many numbers, from this one on.
abbrev pub numbers : ℕ → ℕ → List ℕ
numbers number zero = []
numbers number (suc count) = number ∷ numbers (number + 1) count
