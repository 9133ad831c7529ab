use Rattle.std.proofs.Common.{refl, sym, ◌∙◌, arith}
use Rattle.ea_search.specs.Underway.{bound_of}
use Rattle.ea_search.proofs.Fronts.{waiting_moved}
use Rattle.ea_search.proofs.buckets.frontier.Frontier.move_in.Goals as goal

pub moving-init : goal.moving-init
moving-init g c = record { rest = λ node waits. waits; room = record { nodes = refl; walks = refl } }

pub label-time-requires : goal.label-time-requires
label-time-requires g c = (c.in-Some.ensures.is_node.0, omega (arith, c.in-Some.ensures.is_node.1, c.moving.invariant.room.nodes, c.requires))

pub put-requires-clause-node : goal.put-requires-clause-node
put-requires-clause-node g c = (c.in-Some.ensures.is_node.0, omega (arith, c.in-Some.ensures.is_node.1, c.in-Some.ensures.nodes))

pub moving-preserved : goal.moving-preserved
moving-preserved g c =
    let table = (g.L.Table.labels c.args.table.now) in
    let node = c.in-Some.node in
    let e = c.in-Some.ensures in
    let inv = c.moving.invariant in
    let at = sym c.label-time.ensures in
    record {
      rest = λ v waits. waiting_moved (bound_of table) node c.moving.self c.take_waiting.new.self c.put.new.self _ e.waited e.lists (sym at) c.put.ensures v (inv.rest v waits);
      room = record { nodes = c.put.ensures.nodes ∙ e.nodes ∙ inv.room.nodes; walks = c.put.ensures.walks ∙ e.walks ∙ inv.room.walks };
    }

pub returns-in_default-clause-rest : goal.returns-in_default-clause-rest
returns-in_default-clause-rest g c = rw c.in_default.ensures.1 c.moving.invariant.rest
