use Rattle.std.proofs.Common.{arith, ◌≡◌, ◌+◌, ◌++◌, ◌∙◌, ℕ, ap, take, drop, suc, get_or, subst, length}
use Rattle.std.proofs.lemmas.List.{take_all}
use Rattle.ea_report.specs.Deliverers.{delivery_of}
use Rattle.ea_report.specs.Sent.{Adds}
use Rattle.std.proofs.lemmas.Result.{err_from_is_err_and}
use Rattle.std.specs.List.{flat_map}
use Rattle.ea_report.specs.Report.{reported_node}
use Rattle.ea_report.proofs.Pieces.{lines_done, adds_none, lines_stop, adds_more, flat_map-at, flat_map-next}
use Rattle.ea_report.proofs.pending_text.Pending.put_chosen.Goals as goal

pub returns-in_err-put_node : goal.returns-in_err-put_node
returns-in_err-put_node g c =
    let p = err_from_is_err_and c.from_residual.result c.from_residual.ensures.1 in
    let i = c.loop-node.node-index in
    let chosen = c.args.chosen.now in
    let text = reported_node c.args.style c.args.answer.now in
    rw (p.1, p.2) (lines_stop _ _ _ _ _ _ _ i 1 _ (flat_map text (take i chosen)) _ (flat_map text (drop (suc i) chosen)) _ (omega arith) (flat_map-at text chosen i 0 (omega arith)) c.loop-node.invariant.added c.loop-node.invariant.bound (omega arith) c.in_err-put_node.ensures.adds.err (omega (arith, c.in_err-put_node.ensures.adds.bound, c.in_err-put_node.ensures.adds.within)) (omega (arith, c.in_err-put_node.ensures.adds.small, c.in_err-put_node.ensures.adds.within)))

pub loop-node-preserved : goal.loop-node-preserved
loop-node-preserved g c =
    let i = c.loop-node.node-index in
    let chosen = c.args.chosen.now in
    let text = reported_node c.args.style c.args.answer.now in
    let before = flat_map text (take i chosen) in
    let one : i + 1 ≡ suc i = omega arith in
    let next : flat_map text (take (i + 1) chosen) ≡ before ++ text (get_or chosen i 0) = ap (λ (n : ℕ). flat_map text (take n chosen)) one ∙ flat_map-next text chosen i 0 (omega arith) in record {
      links = c.in_ok-put_node.ensures.links ∙ c.loop-node.invariant.links;
      added = rw next (adds_more _ _ _ _ _ _ before _ c.loop-node.invariant.added c.in_ok-put_node.ensures.adds.ok);
      bound = omega (arith, c.in_ok-put_node.ensures.adds.bound);
      held = c.in_ok-put_node.ensures.adds.held;
    }

pub loop-node-init : goal.loop-node-init
loop-node-init g c = record {
  links = c.new-arcs.ensures.links ∙ c.links.ensures.links;
  added = adds_none _ _;
  bound = omega (arith);
  held = c.requires.held;
}

pub returns : goal.returns
returns g c =
    let xs = c.args.chosen.now in
    let all : take c.loop-node.node-index xs ≡ xs = take_all c.loop-node.node-index xs (omega (arith, c.loop-node-test.false)) in
    let added = subst (λ ys. Adds (g.W.Device.seen c.args.out.now) (delivery_of c.args.self.now) (g.W.Device.seen c.loop-node.out) (delivery_of c.loop-node.self) (flat_map (reported_node c.args.style c.args.answer.now) ys)) all c.loop-node.invariant.added in
    lines_done _ _ _ _ _ (length xs) _ (omega arith) added (omega (arith, c.loop-node.invariant.bound)) c.loop-node.invariant.held
