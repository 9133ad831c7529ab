use Rattle.std.proofs.Common.{◌≡◌, ◌<◌, ℕ, length}
use Rattle.std.specs.Prelude.{slice_index}
use Rattle.ea_hierarchy.specs.Hierarchies.{IsParentAbove}
use Rattle.ea_hierarchy.proofs.upward.distances_of.Given as goal

abbrev pub invariant-loop-rank : goal.invariant-loop-rank
invariant-loop-rank l = record {
  count : length l.parents.items ≡ l.rank;
  each : (rank : ℕ) → rank < l.rank → IsParentAbove l.firsts l.heads rank (slice_index l.parents.items rank);
}
