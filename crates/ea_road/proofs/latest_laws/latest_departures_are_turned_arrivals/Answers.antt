use Rattle.ea_road.proofs.TurnedArrivals.{latest_is_least, least_is_latest, none_is_none, none_is_none_back}
use Rattle.ea_road.proofs.latest_laws.latest_departures_are_turned_arrivals.Goals as goal

pub returns-clause-time : goal.returns-clause-time
returns-clause-time g c =
    let fifo = g.met.T.TravelTimes.fifo c.args.times.now in
    λ node time within. (
      least_is_latest c.args.network.now _ _ c.args.targets.now c.keeps_limits.ensures c.requires.classes fifo c.requires.targets node time,
      latest_is_least c.args.network.now _ _ c.args.targets.now c.keeps_limits.ensures c.requires.classes fifo c.requires.targets node time within,
    )

pub returns-clause-none : goal.returns-clause-none
returns-clause-none g c =
    let fifo = g.met.T.TravelTimes.fifo c.args.times.now in
    λ node. (
      none_is_none c.args.network.now _ _ c.args.targets.now c.keeps_limits.ensures c.requires.classes fifo c.requires.targets node,
      none_is_none_back c.args.network.now _ _ c.args.targets.now c.keeps_limits.ensures c.requires.classes fifo c.requires.targets node,
    )
