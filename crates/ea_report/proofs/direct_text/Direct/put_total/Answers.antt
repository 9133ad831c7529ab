use Rattle.std.proofs.Common.{ap, arith, sym, ◌++◌, ◌∙◌}
use Rattle.ea_report.specs.Report.{spaced}
use Rattle.ea_report.specs.Stats.{number_end}
use Rattle.ea_report.proofs.Pieces.{pieces_then, pieces_stop_first}
use Rattle.ea_report.proofs.TotalLines.{total_is}
use Rattle.ea_report.proofs.direct_text.Direct.put_total.Goals as goal

pub returns-in-Ok : goal.returns-in-Ok
returns-in-Ok g c =
    let fields = spaced c.args.name.now ++ number_end c.args.total in
    let e = total_is c.args.name.now c.args.total ∙ ap (λ x. x ++ fields) (sym c.as_slice.ensures) in
    pieces_then c.put_fields.result _ _ _ _ _ _ 1 5 6 c.as_slice.result.now fields _ (omega arith) e c.in-Ok.ensures.ok c.in-Ok.ensures.bound c.put_fields.ensures

pub returns-in-Err : goal.returns-in-Err
returns-in-Err g c =
    let fields = spaced c.args.name.now ++ number_end c.args.total in
    let e = total_is c.args.name.now c.args.total ∙ ap (λ x. x ++ fields) (sym c.as_slice.ensures) in
    pieces_stop_first _ _ _ _ c.in-Err.fault 1 6 c.as_slice.result.now fields _ (omega arith) e c.in-Err.ensures.err c.in-Err.ensures.device c.in-Err.ensures.bound c.in-Err.ensures.small
