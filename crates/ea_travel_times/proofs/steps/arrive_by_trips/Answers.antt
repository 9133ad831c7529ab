use Rattle.std.proofs.Common.{refl}
use Rattle.ea_travel_times.proofs.TripSteps.{no_trip_left, trip_next_turn, trip_this_turn}
use Rattle.ea_travel_times.proofs.steps.arrive_by_trips.Goals as goal

pub returns-then-place-steps : goal.returns-then-place-steps
returns-then-place-steps c =
    trip_this_turn c.args.period c.args.steps.now c.requires.trips c.args.weight c.args.departure c.phase_of-phase.result c.steps_before-place.result c.ride.result
    c.phase_of-phase.ensures c.steps_before-place.ensures.inside c.steps_before-place.ensures.before c.if-place-steps.true (c.steps_before-place.ensures.after c.if-place-steps.true) c.ride.ensures

pub returns-then-period-gt0 : goal.returns-then-period-gt0
returns-then-period-gt0 c =
    trip_next_turn c.args.period c.args.steps.now c.requires.trips c.args.weight c.args.departure c.phase_of-phase.result c.steps_before-place.result c.ride-then-period-gt0.result
    c.phase_of-phase.ensures c.steps_before-place.ensures.inside c.steps_before-place.ensures.before c.if-period-gt0.true c.if-place-steps.false c.ride-then-period-gt0.ensures

pub returns-else-period-gt0 : goal.returns-else-period-gt0
returns-else-period-gt0 c =
    no_trip_left c.args.period c.args.steps.now c.requires.trips c.args.weight c.args.departure c.phase_of-phase.result c.steps_before-place.result 281474976710656
    c.phase_of-phase.ensures c.steps_before-place.ensures.inside c.steps_before-place.ensures.before c.if-period-gt0.false c.if-place-steps.false refl
