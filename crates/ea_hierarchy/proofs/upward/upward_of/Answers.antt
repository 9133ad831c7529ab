use Rattle.std.proofs.Common.{arith, length, subst, ◌-◌, ◌≡◌}
use Rattle.ea_hierarchy.specs.Growth.{AreAbove, AreMade}
use Rattle.ea_hierarchy.specs.Hierarchies.{IsUpward}
use Rattle.ea_hierarchy.specs.Waiting.{higher_ends, lower_ends}
use Rattle.ea_hierarchy.proofs.Growing.{all_joined, all_upward}
use Rattle.ea_hierarchy.proofs.upward.upward_of.Goals as goal

pub returns-clause-upward : goal.returns-clause-upward
returns-clause-upward c =
    let roads = c.args.network.now in
    let ranks = c.args.ranks.now in
    let it = c.loop-rank.growing.upward in
    let end : c.loop-rank.rank ≡ roads.nodes = omega (arith, c.nodes-nodes.ensures.nodes) in
    let above = subst (λ n. AreAbove roads.nodes n it.firsts.items it.heads.items) end c.loop-rank.invariant.growing.above in
    let made = subst (λ n. AreMade n (lower_ends ranks roads.arcs) (higher_ends ranks roads.arcs) it.firsts.items it.heads.items) end c.loop-rank.invariant.made in
    let count : roads.nodes ≡ length it.firsts.items - 1 = omega (arith, above.count) in
    subst (λ n. IsUpward n it.firsts.items it.heads.items) count (all_upward roads.nodes (lower_ends ranks roads.arcs) (higher_ends ranks roads.arcs) it.firsts.items it.heads.items above made)

pub distances_of-requires-clause-upward : goal.distances_of-requires-clause-upward
distances_of-requires-clause-upward c =
    let roads = c.args.network.now in
    let ranks = c.args.ranks.now in
    let it = c.loop-rank.growing.upward in
    let end : c.loop-rank.rank ≡ roads.nodes = omega (arith, c.nodes-nodes.ensures.nodes) in
    let above = subst (λ n. AreAbove roads.nodes n it.firsts.items it.heads.items) end c.loop-rank.invariant.growing.above in
    let made = subst (λ n. AreMade n (lower_ends ranks roads.arcs) (higher_ends ranks roads.arcs) it.firsts.items it.heads.items) end c.loop-rank.invariant.made in
    let count : roads.nodes ≡ length it.firsts.items - 1 = omega (arith, above.count) in
    rw (c.deref.ensures.value, c.deref-2.ensures.value) (subst (λ n. IsUpward n it.firsts.items it.heads.items) count (all_upward roads.nodes (lower_ends ranks roads.arcs) (higher_ends ranks roads.arcs) it.firsts.items it.heads.items above made))

pub returns-clause-joined : goal.returns-clause-joined
returns-clause-joined c =
    let roads = c.args.network.now in
    let ranks = c.args.ranks.now in
    let it = c.loop-rank.growing.upward in
    let end : c.loop-rank.rank ≡ roads.nodes = omega (arith, c.nodes-nodes.ensures.nodes) in
    let made = subst (λ n. AreMade n (lower_ends ranks roads.arcs) (higher_ends ranks roads.arcs) it.firsts.items it.heads.items) end c.loop-rank.invariant.made in
    all_joined roads ranks it.firsts.items it.heads.items c.requires c.nodes-nodes.ensures.network made
