use Rattle.std.proofs.Common.{arith, ◌≡◌, ◌+◌, ◌++◌, ◌∙◌, ℕ, ap, take, drop, suc, get_or, subst, length}
use Rattle.std.proofs.lemmas.List.{take_all}
use Rattle.ea_report.specs.Deliverers.{delivery_of}
use Rattle.ea_report.specs.Sent.{Adds}
use Rattle.std.proofs.lemmas.Result.{err_from_is_err_and}
use Rattle.std.specs.List.{flat_map}
use Rattle.ea_road.specs.declared.source.Source.{Source}
use Rattle.ea_report.specs.Report.{start_line}
use Rattle.ea_report.proofs.Pieces.{lines_done, lines_stop, adds_more, flat_map-at, flat_map-next}
use Rattle.ea_report.proofs.pending_text.Pending.put_starts.Goals as goal

abbrev none : Source
none = record { node = 0; departure = 0 }

pub returns-in_err-put_start : goal.returns-in_err-put_start
returns-in_err-put_start g c =
    let p = err_from_is_err_and c.from_residual.result c.from_residual.ensures.1 in
    let i = c.loop-source.source-index in
    let sources = c.args.sources.now in
    rw (p.1, p.2) (lines_stop _ _ _ _ _ _ _ i 1 _ (flat_map (start_line c.args.direction) (take i sources)) _ (flat_map (start_line c.args.direction) (drop (suc i) sources)) _ (omega arith) (flat_map-at (start_line c.args.direction) sources i _ (omega arith)) c.loop-source.invariant.added c.loop-source.invariant.bound (omega arith) c.in_err-put_start.ensures.err (omega (arith, c.in_err-put_start.ensures.bound, c.in_err-put_start.ensures.within)) (omega (arith, c.in_err-put_start.ensures.small, c.in_err-put_start.ensures.within)))

pub loop-source-preserved : goal.loop-source-preserved
loop-source-preserved g c =
    let i = c.loop-source.source-index in
    let sources = c.args.sources.now in
    let before = flat_map (start_line c.args.direction) (take i sources) in
    let one : i + 1 ≡ suc i = omega arith in
    let next : flat_map (start_line c.args.direction) (take (i + 1) sources) ≡ before ++ start_line c.args.direction (get_or sources i none) = ap (λ (n : ℕ). flat_map (start_line c.args.direction) (take n sources)) one ∙ flat_map-next (start_line c.args.direction) sources i none (omega arith) in record {
      added = rw next (adds_more _ _ _ _ _ _ before _ c.loop-source.invariant.added c.in_ok-put_start.ensures.ok);
      bound = omega (arith, c.in_ok-put_start.ensures.bound);
      held = c.in_ok-put_start.ensures.held;
    }

pub returns : goal.returns
returns g c =
    let xs = c.args.sources.now in
    let all : take c.loop-source.source-index xs ≡ xs = take_all c.loop-source.source-index xs (omega (arith, c.loop-source-test.false)) in
    let added = subst (λ ys. Adds (g.W.Device.seen c.args.out.now) (delivery_of c.args.self.now) (g.W.Device.seen c.loop-source.out) (delivery_of c.loop-source.self) (flat_map (start_line c.args.direction) ys)) all c.loop-source.invariant.added in
    lines_done _ _ _ _ _ (length xs) _ (omega arith) added (omega (arith, c.loop-source.invariant.bound)) c.loop-source.invariant.held
