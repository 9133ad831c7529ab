use Rattle.std.proofs.Common.{◌≤◌}
use Rattle.ea_check.proofs.form.shared_text.to_blank.Given as goal

abbrev pub invariant-back : goal.invariant-back
invariant-back l = l.end ≤ l.len

abbrev pub decreases-back : goal.decreases-back
decreases-back l = l.end
