-- Potentials: bounds of the travel time to a target, by ranks.
use Rattle.std.specs.Prelude.{◌≡◌, ℕ, zero, suc, ◌+◌, ◌-◌, ◌<◌, ◌≤◌, List, min, slice_index}
use Rattle.ea_hierarchy.specs.Hierarchies.{IsFrom}
use Rattle.ea_hierarchy.specs.Numbers.{plus}
use Rattle.ea_hierarchy.specs.declared.numbers.TheConstants.{NONE}

-- The least of a number and of what a function gives to this many places from one on.
abbrev pub least_over : (ℕ → ℕ) → ℕ → ℕ → ℕ → ℕ
least_over of base first zero = base
least_over of base first (suc count) = min (least_over of base first count) (of (first + count))

-- The potential of a rank: the least of what is reached at it from the target downward, and over its upward arcs of the arc's number and
-- the potential of its head; looked at over this many arcs.
unfoldable pub potential : List ℕ → List ℕ → List ℕ → (ℕ → ℕ) → ℕ → ℕ → ℕ
potential firsts heads ups reach zero rank = reach rank
potential firsts heads ups reach (suc steps) rank =
    least_over (λ place. plus (slice_index ups place) (potential firsts heads ups reach steps (slice_index heads place))) (reach rank) (slice_index firsts rank) (slice_index firsts (rank + 1) - slice_index firsts rank)

-- What is reached at each rank from the target downward: no head is reached later than over an arc to it.
pub record IsReach (nodes : ℕ) (firsts heads downs : List ℕ) (target : ℕ) (reach : ℕ → ℕ) : Type 0 where
  pub at_target : reach target ≡ 0
  pub to_none : (rank : ℕ) → reach rank ≤ NONE
  pub over : (rank place : ℕ) → rank < nodes → IsFrom firsts rank place → reach (slice_index heads place) ≤ plus (slice_index downs place) (reach rank)
