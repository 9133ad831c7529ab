use Rattle.std.proofs.Common.{arith, refl}
use Rattle.ea_report.specs.Report.{spaced}
use Rattle.ea_report.specs.Stats.{number_end}
use Rattle.ea_report.proofs.Pieces.{pieces_then, pieces_stop_first}
use Rattle.ea_report.proofs.direct_text.Direct.put_fields.Goals as goal

pub returns-in-Ok : goal.returns-in-Ok
returns-in-Ok g c =
    pieces_then c.put_number.result _ _ _ _ _ _ 2 3 5 (spaced c.args.name.now) (number_end c.args.total) _ (omega arith) refl c.in-Ok.ensures.ok c.in-Ok.ensures.bound c.put_number.ensures

pub returns-in-Err : goal.returns-in-Err
returns-in-Err g c =
    pieces_stop_first _ _ _ _ c.in-Err.fault 2 5 (spaced c.args.name.now) (number_end c.args.total) _ (omega arith) refl c.in-Err.ensures.err c.in-Err.ensures.device c.in-Err.ensures.bound c.in-Err.ensures.small
