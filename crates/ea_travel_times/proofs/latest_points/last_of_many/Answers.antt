use Rattle.ea_travel_times.proofs.PointsBy.{last_in_turn, last_on_turn}
use Rattle.ea_travel_times.proofs.latest_points.last_of_many.Goals as goal

pub returns-then-place-points : goal.returns-then-place-points
returns-then-place-points c =
    last_in_turn c.args.period c.args.points.now c.requires.points c.requires.period c.args.left c.in-Some.begin c.in-Some.place c.last_between.result c.in-Some.ensures c.if-place-points.true c.last_between.ensures

pub returns : goal.returns
returns c =
    last_on_turn c.args.period c.args.points.now c.requires.points c.requires.period c.args.left c.in-Some.begin c.in-Some.place c.last_between-2.result c.in-Some.ensures c.if-place-points.false c.last_between-2.ensures
