use Rattle.ea_report.specs.Stats.{stats_text}
use Rattle.ea_report.proofs.Pieces.{given_up}
use Rattle.ea_report.proofs.stats.write_stats.Goals as goal

pub returns-clause-device : goal.returns-clause-device
returns-clause-device g c =
    let first = g.W.Device.seen c.args.out.now in
    let now = g.W.Device.seen c.send_stats.new.out in
    given_up c.send_stats.result first now (stats_text c.args.totals.now) c.send_stats.ensures.writes.err
