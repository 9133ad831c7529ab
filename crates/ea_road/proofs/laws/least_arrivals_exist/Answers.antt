use Rattle.ea_road.proofs.Existing.{has_least}
use Rattle.ea_road.proofs.laws.least_arrivals_exist.Goals as goal

pub returns : goal.returns
returns g c =
    let it = c.requires in
    has_least c.args.network.now _ _ c.args.query.now.sources c.keeps_limits.ensures it.classed (g.met.T.TravelTimes.fifo c.args.times.now) it.sources it.departures
