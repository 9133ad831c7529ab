use Rattle.std.proofs.Common.{arith, ◌≡◌, ℕ, subst, sym}
use Rattle.std.proofs.lemmas.Result.{err_from_is_err_and}
use Rattle.ea_report.specs.Deliverers.{delivery_of}
use Rattle.ea_report.specs.Report.{each_node, node_time, some_nodes}
use Rattle.ea_report.specs.Sent.{Adds}
use Rattle.ea_report.proofs.Pieces.{lines_done, lines_stop, adds_none, adds_more, each_node-front, each_node-then}
use Rattle.ea_report.proofs.pending_text.Pending.put_all_times.Goals as goal

pub loop-after-init : goal.loop-after-init
loop-after-init g c = record {
  inside = omega arith;
  added = adds_none _ _;
  bound = omega arith;
  held = c.requires.held;
}

pub returns-in_err-put_some_times : goal.returns-in_err-put_some_times
returns-in_err-put_some_times g c =
    let p = err_from_is_err_and c.from_residual.result c.from_residual.ensures.1 in
    let text = node_time c.args.direction c.args.answer.now in
    let after = c.loop-after.after in
    let count = c.min.result in
    let here = each_node-front text after count c.args.nodes (omega (arith, c.loop-after-test.true, c.min.ensures)) in
    rw (p.1, p.2) (lines_stop _ _ _ _ _ _ _ after 1 _ (each_node text after) (some_nodes text after count) here.0 _ (omega (arith, c.loop-after-test.true)) here.1 c.loop-after.invariant.added c.loop-after.invariant.bound (omega arith) c.in_err-put_some_times.ensures.err (omega (arith, c.in_err-put_some_times.ensures.bound, c.in_err-put_some_times.ensures.within)) (omega (arith, c.in_err-put_some_times.ensures.small, c.in_err-put_some_times.ensures.within)))

pub loop-after-preserved : goal.loop-after-preserved
loop-after-preserved g c =
    let text = node_time c.args.direction c.args.answer.now in
    let after = c.loop-after.after in
    let count = c.min.result in
    let inv = c.loop-after.invariant in
    record {
      inside = omega (arith, c.loop-after-test.true, c.min.ensures);
      added = rw (sym (each_node-then text after count)) (adds_more _ _ _ _ _ _ (each_node text after) (some_nodes text after count) inv.added c.in_ok-put_some_times.ensures.ok);
      bound = omega (arith, inv.bound, c.in_ok-put_some_times.ensures.bound, c.in_ok-put_some_times.ensures.within, c.min.ensures, c.loop-after-test.true);
      held = c.in_ok-put_some_times.ensures.held;
    }

pub returns : goal.returns
returns g c =
    let all : c.loop-after.after ≡ c.args.nodes = omega (arith, c.loop-after-test.false, c.loop-after.invariant.inside) in
    let added = subst (λ (n : ℕ). Adds (g.W.Device.seen c.args.out.now) (delivery_of c.args.self.now) (g.W.Device.seen c.loop-after.out) (delivery_of c.loop-after.self) (each_node (node_time c.args.direction c.args.answer.now) n)) all c.loop-after.invariant.added in
    lines_done _ _ _ _ _ c.args.nodes _ (omega arith) added (omega (arith, c.loop-after.invariant.bound, all)) c.loop-after.invariant.held
