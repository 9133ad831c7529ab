use Rattle.ea_road.proofs.TurnedArrivals.{one_latest}
use Rattle.ea_road.proofs.latest_laws.latest_departures_are_one.Goals as goal

pub returns : goal.returns
returns g c = one_latest c.args.network.now _ c.args.targets.now
