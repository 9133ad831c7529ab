-- A line of numbers at the front of a text.
use Rattle.std.specs.Prelude.{true, ◌≡◌, ℕ, ◌<◌, ◌≤◌, ◌%◌, ◌^◌, List, [], ◌∷◌, ◌++◌, length, take, codes, Some}
use Rattle.std.specs.Float.Numeral.{digits_len}
use Rattle.std.specs.Str.{all_ascii_digits}
use Rattle.std.specs.Str.Lines.{strip_carriage_return}
use Rattle.std.specs.Str.Parse.{digits_value}
use Rattle.ea_bytes.specs.Text.{number_of, lines_of, fields_of}

-- This many digits are at the front of a text, with this value, wrapped to 64 bits.
pub record AreLeading (text : List ℕ) (end value : ℕ) : Type 0 where
  pub ends : end ≡ digits_len text
  pub within : end ≤ length text
  pub value_is : value ≡ digits_value 10 (take end text) % 2 ^ 64

-- A text begins with this number and this byte, and continues with the rest.
abbrev pub NumberThen : List ℕ → ℕ → ℕ → List ℕ → Type 0
NumberThen text stop value rest = (field : List ℕ) × (text ≡ field ++ stop ∷ rest) × (all_ascii_digits field ≡ true) × (number_of field ≡ Some value) × (value < 2 ^ 64)

-- A text begins with a line `a U V W` of these numbers, and continues with the rest.
pub record ArcThen (text : List ℕ) (tail head weight : ℕ) (rest : List ℕ) : Type 0 where
  pub line : List ℕ
  pub tail_field : List ℕ
  pub head_field : List ℕ
  pub weight_field : List ℕ
  pub cut : lines_of text ≡ line ∷ lines_of rest
  pub shorter : length rest < length text
  pub fields : fields_of (strip_carriage_return line) ≡ codes "a" ∷ tail_field ∷ head_field ∷ weight_field ∷ []
  pub tail_is : (number_of tail_field ≡ Some tail) × (tail < 2 ^ 64)
  pub head_is : (number_of head_field ≡ Some head) × (head < 2 ^ 64)
  pub weight_is : (number_of weight_field ≡ Some weight) × (weight < 2 ^ 64)

-- A text begins with these two numbers, a blank between them and a line feed behind them, and continues with the rest.
abbrev pub TwoThen : List ℕ → ℕ → ℕ → List ℕ → Type 0
TwoThen text first second rest = (between : List ℕ) × NumberThen text 32 first between × NumberThen between 10 second rest

-- A text begins with a line of a word and these two numbers, and continues with the rest.
pub record PairThen (word text : List ℕ) (first second : ℕ) (rest : List ℕ) : Type 0 where
  pub line : List ℕ
  pub first_field : List ℕ
  pub second_field : List ℕ
  pub cut : lines_of text ≡ line ∷ lines_of rest
  pub shorter : length rest < length text
  pub fields : fields_of (strip_carriage_return line) ≡ word ∷ first_field ∷ second_field ∷ []
  pub first_is : (number_of first_field ≡ Some first) × (first < 2 ^ 64)
  pub second_is : (number_of second_field ≡ Some second) × (second < 2 ^ 64)
