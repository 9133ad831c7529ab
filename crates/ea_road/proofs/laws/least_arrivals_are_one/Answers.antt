use Rattle.ea_road.proofs.Fixed.{one_least}
use Rattle.ea_road.proofs.laws.least_arrivals_are_one.Goals as goal

pub returns : goal.returns
returns g c = one_least c.args.network.now _ c.args.query.now
