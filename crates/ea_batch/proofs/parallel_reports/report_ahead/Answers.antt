use Rattle.ea_load.specs.Posed.{times_on}
use Rattle.ea_report.specs.Asked.{shape_of}
use Rattle.ea_batch.proofs.Going.{stops_at_once}
use Rattle.ea_batch.proofs.parallel_reports.report_ahead.Goals as goal

pub returns-in-Err : goal.returns-in-Err
returns-in-Err g c =
    stops_at_once (shape_of c.args.watched.shown) c.args.road.now.network (times_on c.args.road.now) c.args.queries.now (g.W.Device.seen c.args.out.now) c.requires.some
