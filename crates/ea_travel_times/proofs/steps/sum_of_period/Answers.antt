use Rattle.std.proofs.Common.{arith}
use Rattle.ea_travel_times.proofs.Periods.{whole_moves}
use Rattle.ea_travel_times.proofs.steps.sum_of_period.Goals as goal

pub returns-clause-some : goal.returns-clause-some
returns-clause-some c =
    let some = whole_moves c.args.period c.args.steps.now c.requires.speeds in
    omega (arith, some, c.sum_until.ensures.is)
