use Rattle.std.proofs.Common.{arith, take, drop, suc, ◌≡◌, subst, length}
use Rattle.std.proofs.lemmas.List.{take_all}
use Rattle.ea_report.specs.Deliverers.{delivery_of}
use Rattle.ea_report.specs.Sent.{Adds}
use Rattle.std.proofs.lemmas.Result.{err_from_is_err_and}
use Rattle.std.specs.List.{flat_map}
use Rattle.ea_report.specs.Report.{asked_line}
use Rattle.ea_report.proofs.Pieces.{lines_done, lines_stop, flat_map-at}
use Rattle.ea_report.proofs.pending_text.Pending.put_all_asked.Goals as goal

pub returns-in_err-put_asked : goal.returns-in_err-put_asked
returns-in_err-put_asked g c =
    let p = err_from_is_err_and c.from_residual.result c.from_residual.ensures.1 in
    let i = c.loop-source.source-index in
    let sources = c.args.sources.now in
    rw (p.1, p.2) (lines_stop _ _ _ _ _ _ _ i 1 _ (flat_map (asked_line c.args.direction c.args.target) (take i sources)) _ (flat_map (asked_line c.args.direction c.args.target) (drop (suc i) sources)) _ (omega arith) (flat_map-at (asked_line c.args.direction c.args.target) sources i _ (omega arith)) c.loop-source.invariant.added c.loop-source.invariant.bound (omega arith) c.in_err-put_asked.ensures.err (omega (arith, c.in_err-put_asked.ensures.bound, c.in_err-put_asked.ensures.within)) (omega (arith, c.in_err-put_asked.ensures.small, c.in_err-put_asked.ensures.within)))

pub returns : goal.returns
returns g c =
    let xs = c.args.sources.now in
    let all : take c.loop-source.source-index xs ≡ xs = take_all c.loop-source.source-index xs (omega (arith, c.loop-source-test.false)) in
    let added = subst (λ ys. Adds (g.W.Device.seen c.args.out.now) (delivery_of c.args.self.now) (g.W.Device.seen c.loop-source.out) (delivery_of c.loop-source.self) (flat_map (asked_line c.args.direction c.args.target) ys)) all c.loop-source.invariant.added in
    lines_done _ _ _ _ _ (length xs) _ (omega arith) added (omega (arith, c.loop-source.invariant.bound)) c.loop-source.invariant.held
