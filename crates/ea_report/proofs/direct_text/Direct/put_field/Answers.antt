use Rattle.std.proofs.Common.{ap, arith, sym, ◌++◌}
use Rattle.ea_report.proofs.Pieces.{pieces_then, pieces_stop_first}
use Rattle.ea_report.proofs.direct_text.Direct.put_field.Goals as goal

pub returns-in-Ok : goal.returns-in-Ok
returns-in-Ok g c =
    let field = c.args.field.now in
    pieces_then c.put-in-Ok.result _ _ _ _ _ _ 1 1 2 c.as_slice.result.now field _ (omega arith) (ap (λ x. x ++ field) (sym c.as_slice.ensures)) c.in-Ok.ensures.ok c.in-Ok.ensures.bound c.put-in-Ok.ensures

pub returns-in-Err : goal.returns-in-Err
returns-in-Err g c =
    let field = c.args.field.now in
    pieces_stop_first _ _ _ _ c.in-Err.fault 1 2 c.as_slice.result.now field _ (omega arith) (ap (λ x. x ++ field) (sym c.as_slice.ensures)) c.in-Err.ensures.err c.in-Err.ensures.device c.in-Err.ensures.bound c.in-Err.ensures.small
