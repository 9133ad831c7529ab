use Rattle.std.proofs.Common.{ℕ, ◌-◌, ◌<◌, ◌≤◌, ◌≡◌, length}
use Rattle.std.specs.Prelude.{slice_index}
use Rattle.ea_hierarchy.proofs.customize.place_from.Given as goal

abbrev pub invariant-loop-place : goal.invariant-loop-place
invariant-loop-place l = record {
  from : l.from ≤ l.place;
  first : (place : ℕ) → l.from ≤ place → place < length l.heads → slice_index l.heads place ≡ l.head → l.place ≤ place;
  ahead : (place : ℕ) × (l.place ≤ place) × (place < length l.heads) × (slice_index l.heads place ≡ l.head);
}

abbrev pub decreases-loop-place : goal.decreases-loop-place
decreases-loop-place l = length l.heads - l.place
