-- The places of keys among the distinct keys, ascending.
use Rattle.std.specs.Prelude.{◌≡◌, ℕ, ◌<◌, ◌≤◌, List, length, slice_index, Contains}
use Rattle.std.specs.List.{AllAdjacentBelow}
use Rattle.std.specs.List.Sorted.{IsStrictlyIncreasing}
use Rattle.ea_rank.specs.declared.places.Mark.{Mark}

-- Each of the keys with its number, sorted by key.
pub record AreMarks (all : List ℕ) (marks : List Mark) : Type 0 where
  pub each : (index : ℕ) → index < length all → Contains marks (record { key = slice_index all index; index = index })
  pub only : (mark : Mark) → Contains marks mark → (mark.index < length all) × (mark.key ≡ slice_index all mark.index)
  pub ascending : AllAdjacentBelow (λ this next. this.key ≤ next.key) marks (length marks)

-- The place of each key among the distinct keys.
pub record ArePlaces (keys all places : List ℕ) : Type 0 where
  pub ascending : IsStrictlyIncreasing keys
  pub lengths : length places ≡ length all
  pub inside : (index : ℕ) → index < length all → slice_index places index < length keys
  pub found : (index : ℕ) → index < length all → slice_index keys (slice_index places index) ≡ slice_index all index
