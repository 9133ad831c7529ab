use Rattle.std.proofs.Common.{refl}
use Rattle.ea_travel_times.proofs.PointsBy.{last_on_line}
use Rattle.ea_travel_times.proofs.latest_points.last_between.Goals as goal

pub returns-then-apart-le-NEAR : goal.returns-then-apart-le-NEAR
returns-then-apart-le-NEAR c = last_on_line c.args.point.0 c.args.point.1 c.args.next.0 c.args.next.1 c.args.left _ c.requires.points.rises c.requires.from c.requires.to refl

pub returns-else-apart-le-NEAR : goal.returns-else-apart-le-NEAR
returns-else-apart-le-NEAR c =
    rw (c.from.ensures, c.from-else-apart-le-NEAR.ensures, c.from-else-apart-le-NEAR-2.ensures)
    (last_on_line c.args.point.0 c.args.point.1 c.args.next.0 c.args.next.1 c.args.left _ c.requires.points.rises c.requires.from c.requires.to refl)
