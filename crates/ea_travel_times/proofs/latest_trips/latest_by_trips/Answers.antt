use Rattle.std.proofs.Common.{arith}
use Rattle.ea_travel_times.proofs.TripsBy.{last_trip_is_latest, no_trip_in_time}
use Rattle.ea_travel_times.proofs.latest_trips.latest_by_trips.Goals as goal

pub returns-in-Some : goal.returns-in-Some
returns-in-Some c =
    last_trip_is_latest c.args.period c.args.steps.now c.requires.trips c.args.weight c.args.arrival c.in-Some.begin c.in-Some.place c.if-arrival-weight.false c.requires.arrival c.in-Some.ensures

pub returns-in-None : goal.returns-in-None
returns-in-None c =
    let few = c.in-None.ensures in
    no_trip_in_time c.args.period c.args.steps.now c.requires.trips c.args.weight c.args.arrival c.requires.arrival (omega (arith, few, c.if-arrival-weight.false))
