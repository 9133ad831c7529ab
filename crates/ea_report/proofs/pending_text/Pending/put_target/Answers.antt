use Rattle.std.proofs.Common.{arith}
use Rattle.std.specs.List.{flat_map}
use Rattle.ea_report.specs.Report.{asked_line, reported_node}
use Rattle.ea_report.proofs.Pieces.{lines_then, lines_stop_first}
use Rattle.ea_report.proofs.pending_text.Pending.put_target.Goals as goal

pub returns-in-Ok : goal.returns-in-Ok
returns-in-Ok g c =
    let pairs = flat_map (asked_line c.args.style.direction c.args.target) c.args.sources.now in
    let node = reported_node c.args.style c.args.answer.now c.args.target in
    lines_then c.put_alone.result _ _ _ _ _ _ _ _ pairs node (omega arith) c.in-Ok.ensures.ok (omega (arith, c.in-Ok.ensures.bound, c.in-Ok.ensures.within)) c.put_alone.ensures

pub returns-in-Err : goal.returns-in-Err
returns-in-Err g c =
    let pairs = flat_map (asked_line c.args.style.direction c.args.target) c.args.sources.now in
    let node = reported_node c.args.style c.args.answer.now c.args.target in
    lines_stop_first _ _ _ _ c.in-Err.fault c.in-Err.ensures.count _ pairs node (omega (arith, c.in-Err.ensures.within)) (omega arith) c.in-Err.ensures.err c.in-Err.ensures.bound c.in-Err.ensures.small
