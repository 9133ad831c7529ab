use Rattle.std.proofs.Common.{◌≤◌}
use Rattle.test_reports.proofs.streamed.unindexed.Given as goal

abbrev pub invariant-loop-number : goal.invariant-loop-number
invariant-loop-number l = 1 ≤ l.number
