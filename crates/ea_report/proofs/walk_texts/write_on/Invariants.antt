use Rattle.std.proofs.Common.{◌≤◌, ◌-◌, length}
use Rattle.ea_report.specs.Walks.{AreWritten}
use Rattle.ea_report.proofs.walk_texts.write_on.Given as goal

-- The text is that of the walk to the last node that has an end.
abbrev pub invariant-on : goal.invariant-on
invariant-on l = record {
  more : length l.fn.ends.items ≤ length l.ends.items;
  written : AreWritten l.links l.nodes l.ends.items l.text.items;
}

abbrev pub decreases-on : goal.decreases-on
decreases-on l = length l.nodes - length l.ends.items
