use Rattle.std.proofs.Common.{◌-◌, ◌≤◌}
use Rattle.std.specs.Prelude.{slice_index}
use Rattle.ea_hierarchy.specs.Trimmed.{AreMarked}
use Rattle.ea_hierarchy.proofs.trimmed.mark.Given as goal

abbrev pub invariant-loop-joining : goal.invariant-loop-joining
invariant-loop-joining l = slice_index l.upward.firsts.items (slice_index l.upward.heads.items l.place) ≤ l.joining

abbrev pub decreases-loop-joining : goal.decreases-loop-joining
decreases-loop-joining l = l.last - l.joining

abbrev pub invariant-loop-later : goal.invariant-loop-later
invariant-loop-later l = record {
  above : slice_index l.upward.firsts.items (slice_index l.upward.heads.items l.place) ≤ l.joining;
  marked : AreMarked l.upward.firsts.items l.upward.heads.items l.numbers l.rank l.marks.items;
}
