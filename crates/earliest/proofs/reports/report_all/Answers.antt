use Rattle.ea_load.specs.Posed.{times_on}
use Rattle.ea_report.specs.Asked.{chosen_by}
use Rattle.earliest.specs.RunRoads.{road_of_run}
use Rattle.earliest.proofs.Sending.{all_written, sent_in, totals_cut}
use Rattle.earliest.proofs.reports.report_all.Goals as goal

pub returns : goal.returns
returns g c =
    let first = g.W.Device.seen c.args.out.now in
    let now = g.W.Device.seen c.write_totals.new.out in
    let road = (road_of_run c.args.road) in
    let problems = c.args.queries.now in
    let sent = sent_in _ _ c.requires.run.asked road.network (times_on road) problems first _ _ c.in_ok-reports.ensures.sent in
    record {
      ok = all_written c.args.options.now (chosen_by c.args.watched.shown) road.network (times_on road) problems first _ now _ c.in_ok-reports.reports.totals sent c.in-Ok.ensures.ok c.in-Ok.ensures.borne c.in_ok-reports.ensures.counted c.in_ok-reports.ensures.balanced;
      err = tt;
    }

pub returns-in-Err : goal.returns-in-Err
returns-in-Err g c =
    let now = g.W.Device.seen c.write_totals.new.out in
    let first = g.W.Device.seen c.args.out.now in
    let road = (road_of_run c.args.road) in
    let problems = c.args.queries.now in
    let sent = sent_in _ _ c.requires.run.asked road.network (times_on road) problems first _ _ c.in_ok-reports.ensures.sent in
    let cut = c.in-Err.ensures.err in
    record {
      ok = tt;
      err = rw cut.2 (totals_cut c.args.options.now (chosen_by c.args.watched.shown) road.network (times_on road) problems first _ now c.in_ok-reports.reports.progress.written c.in_ok-reports.reports.totals sent cut.0 cut.1 (c.in_ok-reports.ensures.counted cut.1) cut.3 cut.4);
    }
