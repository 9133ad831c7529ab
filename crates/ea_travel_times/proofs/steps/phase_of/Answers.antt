use Rattle.std.proofs.Common.{sym, ap, ◌∙◌, ◌%◌}
use Rattle.std.proofs.Math.Nat.{mod-zero}
use Rattle.ea_travel_times.proofs.steps.phase_of.Goals as goal

pub returns-then-period-eq0 : goal.returns-then-period-eq0
returns-then-period-eq0 c = sym (ap (λ p. c.args.departure % p) c.if-period-eq0.true ∙ mod-zero c.args.departure)
