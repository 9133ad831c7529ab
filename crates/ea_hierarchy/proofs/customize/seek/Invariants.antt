use Rattle.std.proofs.Common.{ℕ, ◌+◌, ◌-◌, ◌<◌, ◌≤◌}
use Rattle.std.specs.Prelude.{slice_index}
use Rattle.ea_hierarchy.specs.Hierarchies.{Joins}
use Rattle.ea_hierarchy.proofs.customize.seek.Given as goal

abbrev pub invariant-loop-to : goal.invariant-loop-to
invariant-loop-to l = record {
  low : slice_index l.upward.firsts.items l.low ≤ l.from;
  high : l.to ≤ slice_index l.upward.firsts.items (l.low + 1);
  order : l.from ≤ l.to;
  between : (place : ℕ) → Joins l.upward.firsts.items l.upward.heads.items l.low l.high place → (l.from ≤ place) × (place < l.to);
}

abbrev pub decreases-loop-to : goal.decreases-loop-to
decreases-loop-to l = l.to - l.from
