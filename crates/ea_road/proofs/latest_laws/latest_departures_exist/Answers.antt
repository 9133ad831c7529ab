use Rattle.ea_road.proofs.TwoSides.{has_latest}
use Rattle.ea_road.proofs.latest_laws.latest_departures_exist.Goals as goal

pub returns : goal.returns
returns g c =
    let it = c.requires in
    has_latest c.args.network.now _ _ c.args.targets.now c.keeps_limits.ensures it.classes (g.met.T.TravelTimes.fifo c.args.times.now) it.targets it.nodes
