use Rattle.std.proofs.Common.{◌≤◌}
use Rattle.ea_check.proofs.form.reported.Reported.walks.Given as goal

abbrev pub invariant-loop-walk : goal.invariant-loop-walk
invariant-loop-walk l = l.walks ≤ l.walk-index
