use Rattle.std.proofs.Common.{◌≡◌}
use Rattle.test_reports.proofs.reports.add_nodes.Given as goal

abbrev pub invariant-loop-node : goal.invariant-loop-node
invariant-loop-node l = l.arcs.links ≡ l.answer.links
