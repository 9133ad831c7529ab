-- What the text of a walk shares with that of another walk.
use Rattle.std.specs.Prelude.{◌≡◌, ◌⊎◌, ℕ, ◌-◌, ◌<◌, ◌≤◌, true, List, ◌++◌, length, take, drop, slice_index}
use Rattle.ea_base.specs.declared.direction.Direction.{Direction}
use Rattle.ea_bytes.specs.Text.{fields_of, is_blank}
use Rattle.ea_check.specs.Form.{arcs_of, told_walk}

-- The bytes of a text between two places.
abbrev pub part : List ℕ → ℕ → ℕ → List ℕ
part text start end = take (end - start) (drop start text)

-- Two texts have the same first bytes, this many.
pub record SharesFront (text other : List ℕ) (len : ℕ) : Type 0 where
  pub in_text : len ≤ length text
  pub in_other : len ≤ length other
  pub same : take len text ≡ take len other

-- Two texts have the same last bytes, this many.
pub record SharesBack (text other : List ℕ) (len : ℕ) : Type 0 where
  pub in_text : len ≤ length text
  pub in_other : len ≤ length other
  pub same : drop (length text - len) text ≡ drop (length other - len) other

-- The first bytes of a text, if any, end with a blank.
abbrev pub EndsBlank : List ℕ → ℕ → Type 0
EndsBlank text len = (len ≡ 0) ⊎ ((0 < len) × (is_blank (slice_index text (len - 1)) ≡ true))

-- The last bytes of a text, if any, begin with a blank.
abbrev pub BeginsBlank : List ℕ → ℕ → Type 0
BeginsBlank text len = (len ≡ 0) ⊎ ((0 < len) × (is_blank (slice_index text (length text - len)) ≡ true))

-- The arcs of a walk's text, in the network that was searched.
abbrev pub arcs_in : Direction → List ℕ → List ℕ
arcs_in way text = told_walk way (arcs_of (fields_of text))

-- The walk has some first arcs of the last walk, and then the arcs of this part of its text.
pub record IsOwnPart (way : Direction) (text last : List ℕ) (start end : ℕ) : Type 0 where
  pub in_order : start ≤ end
  pub inside : end ≤ length text
  pub front : List ℕ
  pub cut : arcs_in way text ≡ front ++ arcs_in way (part text start end)
  pub shared : take (length front) last ≡ front
