use Rattle.std.proofs.Common.{◌*◌, arith, take, drop, suc}
use Rattle.std.proofs.lemmas.Result.{err_from_is_err_and}
use Rattle.std.specs.List.{flat_map}
use Rattle.ea_report.specs.Stats.{total_line}
use Rattle.ea_report.proofs.Pieces.{pieces_stop, flat_map-at}
use Rattle.ea_report.proofs.direct_text.Direct.put_totals.Goals as goal

pub returns-in_err-put_total : goal.returns-in_err-put_total
returns-in_err-put_total g c =
    let p = err_from_is_err_and c.from_residual.result c.from_residual.ensures.1 in
    let i = c.loop-row.row-index in
    let rows = c.args.rows.now in
    let e = c.in_err-put_total.ensures in
    rw (p.1, p.2) (pieces_stop _ _ _ _ _ _ _ (i * 6) 6 _ (flat_map (λ row. total_line (row.0.now, row.1)) (take i rows)) _ (flat_map (λ row. total_line (row.0.now, row.1)) (drop (suc i) rows)) _ (omega arith) (flat_map-at (λ row. total_line (row.0.now, row.1)) rows i _ (omega arith)) c.loop-row.invariant.added (omega (arith, c.loop-row.invariant.bound)) e.err e.device e.bound e.small)
