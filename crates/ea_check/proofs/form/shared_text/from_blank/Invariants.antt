use Rattle.std.proofs.Common.{◌≤◌}
use Rattle.ea_check.proofs.form.shared_text.from_blank.Given as goal

abbrev pub invariant-onward : goal.invariant-onward
invariant-onward l = l.left ≤ l.len

abbrev pub decreases-onward : goal.decreases-onward
decreases-onward l = l.left
