use Rattle.std.proofs.Common.{arith, subst}
use Rattle.std.specs.Arc.{arc_value}
use Rattle.std.specs.Prelude.{IsTrue}
use Rattle.ea_road.specs.Roads.{IsNode}
use Rattle.ea_capi.specs.Latest.{IsStop}
use Rattle.ea_capi.specs.States.{road_behind}
use Rattle.ea_capi.proofs.Stopping.{pair_makes_problem}
use Rattle.ea_capi.proofs.handle.content.LatestSearch.find_pair_until.Goals as goal

pub find-requires-clause-problem : goal.find-requires-clause-problem
find-requires-clause-problem c =
    let holds : IsTrue c.is_stop.result = (let no = c.if-not-is_stop.false in cc) in
    let end = subst (λ n. IsStop n c.args.target) c.nodes-nodes.ensures (c.is_stop.ensures.0 holds) in
    let turned = c.args.self.share.turned in
    let is_node : IsNode c.nodes-nodes.result c.args.source = record { from_one = omega (arith, c.if-source-eq0.false); to_last = c.if-source-nodes.false } in
    pair_makes_problem (road_behind c.args.self).network turned.network _ c.args.source c.args.target c.pair-query.result turned.turned c.pair-query.ensures
    (arc_value turned.terrain).classed end (subst (λ n. IsNode n c.args.source) c.nodes-nodes.ensures is_node)
