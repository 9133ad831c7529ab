use Rattle.ea_report.specs.Asked.{chosen_by}
use Rattle.ea_report.specs.Report.{report_text}
use Rattle.ea_report.proofs.Pieces.{given_up}
use Rattle.ea_report.proofs.report.write_problem.Goals as goal

pub returns-clause-device : goal.returns-clause-device
returns-clause-device g c =
    let first = g.W.Device.seen c.args.out.now in
    let now = g.W.Device.seen c.send_problem.new.out in
    given_up c.send_problem.result first now (report_text c.args.options.style (chosen_by c.args.options) c.args.network.now.nodes c.args.query.now c.args.answer.now) c.send_problem.ensures.err
