use Rattle.std.proofs.Common.{◌<◌, arith}
use Rattle.ea_travel_times.proofs.PointsBy.{last_earlier, last_is_latest, latest_of, never_after, never_before, never_in_time}
use Rattle.ea_travel_times.proofs.latest_points.latest_by_points.Goals as goal

pub returns-then-period-eq0 : goal.returns-then-period-eq0
returns-then-period-eq0 c =
    latest_of c.args.period c.args.points.now c.requires.points c.args.weight c.args.arrival c.last_of_one.result c.if-arrival-weight.false c.requires.arrival c.last_of_one.ensures

pub returns-then-period-last : goal.returns-then-period-last
returns-then-period-last c =
    let some : 0 < c.args.period = omega (arith, c.if-period-eq0.false) in
    last_is_latest c.args.period c.args.points.now c.requires.points c.args.weight c.args.arrival _ c.if-arrival-weight.false c.requires.arrival
    (last_earlier c.args.period c.args.points.now c.requires.points some _ c.in-Some.last c.if-period-last.true c.in-Some.ensures)

pub returns-else-period-last : goal.returns-else-period-last
returns-else-period-last c =
    let some : 0 < c.args.period = omega (arith, c.if-period-eq0.false) in
    never_in_time c.args.period c.args.points.now c.requires.points c.args.weight c.args.arrival c.if-arrival-weight.false
    (never_after c.args.period c.args.points.now c.requires.points some _ c.in-Some.last c.if-period-last.false c.in-Some.ensures)

pub returns-in-None : goal.returns-in-None
returns-in-None c =
    let some : 0 < c.args.period = omega (arith, c.if-period-eq0.false) in
    never_in_time c.args.period c.args.points.now c.requires.points c.args.weight c.args.arrival c.if-arrival-weight.false
    (never_before c.args.period c.args.points.now c.requires.points some _ c.in-None.ensures)
