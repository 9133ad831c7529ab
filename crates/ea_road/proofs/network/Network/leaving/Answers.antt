use Rattle.std.proofs.Common.{◌-◌, ap, arith}
use Rattle.std.proofs.lemmas.List.{get_or_read}
use Rattle.ea_road.specs.Roads.{IsNode, Roads}
use Rattle.ea_road.proofs.network.Network.leaving.Goals as goal

pub returns-clause-numbers : goal.returns-clause-numbers
returns-clause-numbers c =
    let starts = c.self.inside.starts.items in
    let index = c.self.invariant.2.index in
    let nodes = ap (λ (roads : Roads). roads.nodes) c.self.view_is in
    let is_node : IsNode c.self.inside.arcs.nodes c.args.node = rw nodes c.requires in
    let from = get_or_read starts (c.args.node - 1) _ (omega (arith, index.starts_length, is_node.to_last)) c.index.ensures 0 in
    let to = get_or_read starts c.args.node _ (omega (arith, index.starts_length, is_node.to_last)) c.index-2.ensures 0 in
    rw (c.deref.ensures.value, from, to) (rw (← c.self.view_is) (index.block c.args.node is_node))

pub returns-clause-arcs : goal.returns-clause-arcs
returns-clause-arcs c =
    let starts = c.self.inside.starts.items in
    let index = c.self.invariant.2.index in
    let nodes = ap (λ (roads : Roads). roads.nodes) c.self.view_is in
    let is_node : IsNode c.self.inside.arcs.nodes c.args.node = rw nodes c.requires in
    let from = get_or_read starts (c.args.node - 1) _ (omega (arith, index.starts_length, is_node.to_last)) c.index.ensures 0 in
    let to = get_or_read starts c.args.node _ (omega (arith, index.starts_length, is_node.to_last)) c.index-2.ensures 0 in
    rw (c.deref.ensures.value, c.deref-2.ensures.value, from, to) (rw (← c.self.view_is) (index.beside c.args.node is_node))

pub returns-clause-network : goal.returns-clause-network
returns-clause-network c = rw (← c.self.view_is) c.self.invariant.2.network
