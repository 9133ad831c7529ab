use Rattle.std.proofs.Common.{arith, rules}
use Rattle.std.specs.List.{flat_map}
use Rattle.ea_report.specs.Asked.{chosen_by}
use Rattle.ea_report.specs.Report.{reported_nodes, start_line}
use Rattle.ea_report.proofs.Pieces.{lines_then, lines_stop_first}
use Rattle.ea_report.proofs.pending_text.Pending.put_all.Goals as goal

pub returns-in-Ok : goal.returns-in-Ok
returns-in-Ok g c =
    let starts = flat_map (start_line c.args.options.style.direction) c.args.sources.now in
    let nodes = reported_nodes c.args.options.style (chosen_by c.args.options) c.args.nodes c.args.answer.now in
    lines_then c.put_nodes.result _ _ _ _ _ _ _ _ starts nodes (search rules) c.in-Ok.ensures.ok (omega (arith, c.in-Ok.ensures.bound, c.in-Ok.ensures.within)) c.put_nodes.ensures

pub returns-in-Err : goal.returns-in-Err
returns-in-Err g c =
    let starts = flat_map (start_line c.args.options.style.direction) c.args.sources.now in
    let nodes = reported_nodes c.args.options.style (chosen_by c.args.options) c.args.nodes c.args.answer.now in
    lines_stop_first _ _ _ _ c.in-Err.fault c.in-Err.ensures.count _ starts nodes (omega (arith, c.in-Err.ensures.within)) (search rules) c.in-Err.ensures.err c.in-Err.ensures.bound c.in-Err.ensures.small
