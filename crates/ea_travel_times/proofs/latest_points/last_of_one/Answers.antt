use Rattle.ea_travel_times.proofs.PointsBy.{last_after_last, last_before_first, last_between, never_before_first}
use Rattle.ea_travel_times.proofs.latest_points.last_of_one.Goals as goal

pub returns-then-place-points : goal.returns-then-place-points
returns-then-place-points c =
    last_between c.args.period c.args.points.now c.requires.points c.requires.period c.args.left c.in-Some.place c.last_between.result c.if-place-points.true c.last_between.ensures

pub returns-else-place-points : goal.returns-else-place-points
returns-else-place-points c =
    last_after_last c.args.period c.args.points.now c.requires.points c.requires.period c.args.left _ c.in-Some.place c.in-Some.ensures c.if-place-points.false

pub returns-then-points-left : goal.returns-then-points-left
returns-then-points-left c = last_before_first c.args.period c.args.points.now c.requires.points c.requires.period c.args.left c.in-None.ensures c.if-points-left.true

pub returns-else-points-left : goal.returns-else-points-left
returns-else-points-left c = never_before_first c.args.period c.args.points.now c.requires.points c.requires.period c.args.left c.if-points-left.false
