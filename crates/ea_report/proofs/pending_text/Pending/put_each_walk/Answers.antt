use Rattle.std.proofs.Common.{arith, ◌≡◌, ◌+◌, ◌∙◌, ℕ, subst}
use Rattle.std.proofs.lemmas.Result.{err_from_is_err_and}
use Rattle.ea_report.specs.Deliverers.{delivery_of}
use Rattle.ea_report.specs.Report.{each_node, reported_node}
use Rattle.ea_report.specs.Sent.{Adds}
use Rattle.ea_report.proofs.Pieces.{lines_done, lines_stop, adds_none, adds_more, each_node-at, each_node-next}
use Rattle.ea_report.proofs.pending_text.Pending.put_each_walk.Goals as goal

pub returns-in_err-put_node : goal.returns-in_err-put_node
returns-in_err-put_node g c =
    let p = err_from_is_err_and c.from_residual.result c.from_residual.ensures.1 in
    let text = reported_node c.args.style c.args.answer.now in
    let here = each_node-at text c.args.nodes c.loop-i.i (omega arith) in
    rw (p.1, p.2) (lines_stop _ _ _ _ _ _ _ c.loop-i.i 1 _ (each_node text c.loop-i.i) (text (c.loop-i.i + 1)) here.0 _ (omega arith) here.1 c.loop-i.invariant.added c.loop-i.invariant.bound (omega arith) c.in_err-put_node.ensures.adds.err (omega (arith, c.in_err-put_node.ensures.adds.bound, c.in_err-put_node.ensures.adds.within)) (omega (arith, c.in_err-put_node.ensures.adds.small, c.in_err-put_node.ensures.adds.within)))

pub loop-i-preserved : goal.loop-i-preserved
loop-i-preserved g c =
    let text = reported_node c.args.style c.args.answer.now in
    record { links = c.in_ok-put_node.ensures.links ∙ c.loop-i.invariant.links; added = rw (each_node-next text c.loop-i.i) (adds_more _ _ _ _ _ _ (each_node text c.loop-i.i) (text (c.loop-i.i + 1)) c.loop-i.invariant.added c.in_ok-put_node.ensures.adds.ok); bound = omega (arith, c.in_ok-put_node.ensures.adds.bound); held = c.in_ok-put_node.ensures.adds.held }

pub loop-i-init : goal.loop-i-init
loop-i-init g c = record {
  links = c.new-arcs.ensures.links ∙ c.links.ensures.links;
  added = adds_none _ _;
  bound = omega (arith);
  held = c.requires.held;
}

pub returns : goal.returns
returns g c =
    let all : c.loop-i.i ≡ c.args.nodes = omega (arith, c.loop-i-test.false) in
    let added = subst (λ (n : ℕ). Adds (g.W.Device.seen c.args.out.now) (delivery_of c.args.self.now) (g.W.Device.seen c.loop-i.out) (delivery_of c.loop-i.self) (each_node (reported_node c.args.style c.args.answer.now) n)) all c.loop-i.invariant.added in
    lines_done _ _ _ _ _ c.args.nodes _ (omega arith) added (omega (arith, c.loop-i.invariant.bound, c.loop-i-test.false)) c.loop-i.invariant.held
