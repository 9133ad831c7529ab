use Rattle.std.proofs.Common.{sym, ◌∙◌, arith}
use Rattle.ea_search.specs.Underway.{bound_of}
use Rattle.ea_search.proofs.Fronts.{KeepsWaiting-same, KeepsWaiting-then, Takes-puts, Takes-stale}
use Rattle.ea_search.proofs.buckets.frontier.Frontier.draw.Goals as goal
use Rattle.ea_search.proofs.buckets.frontier.Frontier.draw.Goals.{then-label-time, else-label-time}

pub drawing-init : goal.drawing-init
drawing-init g c = KeepsWaiting-same _ _

pub label-requires : goal.label-requires
label-requires g c =
    let taken = c.in-Some.ensures (bound_of (g.L.Table.labels c.args.table.now)) in
    (taken.node.0, omega (arith, taken.node.1, c.drawing.invariant.nodes, c.requires))

pub put-requires-clause-node : goal.put-requires-clause-node
put-requires-clause-node g c =
    let taken = c.in-Some.ensures (bound_of (g.L.Table.labels c.args.table.now)) in
    (taken.node.0, omega (arith, taken.node.1, taken.nodes))

pub drawing-preserved : goal.drawing-preserved
drawing-preserved g c =
    let table = (g.L.Table.labels c.args.table.now) in
    let node = c.in-Some.node in
    let taken = c.in-Some.ensures (bound_of table) in
    elim c.if-label-time.branch [
      | then-label-time w ↦ rw w.self-is (KeepsWaiting-then _ _ _ _ c.drawing.invariant (Takes-puts (bound_of table) (c.in-Some.time, node) _ _ _ taken w.put.ensures))
      | else-label-time w ↦ rw w.self-is (KeepsWaiting-then _ _ _ _ c.drawing.invariant (Takes-stale (bound_of table) (c.in-Some.time, node) _ _ taken (λ same. w.if-label-time.false (c.label.ensures ∙ sym same))))
    ]

pub returns-in_default : goal.returns-in_default
returns-in_default g c = rw c.in_default.ensures.0 c.drawing.invariant
