use Rattle.std.proofs.Common.{◌≡◌, ap, ap₂, arith, sym, [], ◌∷◌, ◌++◌, ◌∙◌}
use Rattle.std.specs.Prelude.{decimal}
use Rattle.ea_report.specs.Report.{spaced}
use Rattle.ea_report.specs.Stats.{number_end}
use Rattle.ea_report.proofs.Pieces.{pieces_then, pieces_stop_first}
use Rattle.ea_report.proofs.direct_text.Direct.put_number.Goals as goal

pub returns-in-Ok : goal.returns-in-Ok
returns-in-Ok g c =
    let digits = spaced c.as_bytes.result.now in
    let same : digits ≡ spaced (decimal c.args.number) = ap spaced (c.as_bytes.ensures.value ∙ c.format.ensures.text) in
    let e : number_end c.args.number ≡ digits ++ c.as_slice.result.now = ap₂ (λ a b. a ++ b) (sym same) (sym c.as_slice.ensures) in
    pieces_then c.put.result _ _ _ _ _ _ 2 1 3 digits c.as_slice.result.now _ (omega arith) e c.in-Ok.ensures.ok c.in-Ok.ensures.bound c.put.ensures

pub returns-in-Err : goal.returns-in-Err
returns-in-Err g c =
    let digits = spaced c.as_bytes.result.now in
    let same : digits ≡ spaced (decimal c.args.number) = ap spaced (c.as_bytes.ensures.value ∙ c.format.ensures.text) in
    let e : number_end c.args.number ≡ digits ++ 10 ∷ [] = ap (λ a. a ++ 10 ∷ []) (sym same) in
    pieces_stop_first _ _ _ _ c.in-Err.fault 2 3 digits (10 ∷ []) _ (omega arith) e c.in-Err.ensures.err c.in-Err.ensures.device c.in-Err.ensures.bound c.in-Err.ensures.small
