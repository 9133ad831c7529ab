use Rattle.std.proofs.Common.{◌∙◌, List, ap, subst, sym}
use Rattle.std.specs.Arc.{arc_value}
use Rattle.std.specs.Prelude.{IsTrue, None}
use Rattle.ea_road.specs.declared.source.Source.{Source}
use Rattle.ea_road.specs.Queries.{AreSources, Asking}
use Rattle.ea_capi.specs.Latest.{AreStops}
use Rattle.ea_capi.specs.States.{road_behind}
use Rattle.ea_capi.proofs.Stopping.{stops_are_sources, stops_are_targets, stops_make_problem}
use Rattle.ea_capi.proofs.handle.content.LatestSearch.find_for.Goals as goal

pub turned_targets-requires : goal.turned_targets-requires
turned_targets-requires c =
    let holds : IsTrue c.are_stops.result = (let no = c.if-not-are_stops.false in cc) in
    stops_are_targets c.nodes-nodes.result c.args.targets.now (c.are_stops.ensures.0 holds)

pub new-query-requires : goal.new-query-requires
new-query-requires c =
    let holds : IsTrue c.are_stops.result = (let no = c.if-not-are_stops.false in cc) in
    subst (λ (xs : List Source). AreSources xs) (sym c.in-Ok.ensures) (stops_are_sources c.nodes-nodes.result c.args.targets.now (c.are_stops.ensures.0 holds))

pub find-requires-clause-targets : goal.find-requires-clause-targets
find-requires-clause-targets c =
    let holds : IsTrue c.are_stops.result = (let no = c.if-not-are_stops.false in cc) in
    stops_are_targets c.nodes-nodes.result c.args.targets.now (c.are_stops.ensures.0 holds)

pub find-requires-clause-problem : goal.find-requires-clause-problem
find-requires-clause-problem c =
    let holds : IsTrue c.are_stops.result = (let no = c.if-not-are_stops.false in cc) in
    let are = subst (λ n. AreStops n c.args.targets.now) c.nodes-nodes.ensures (c.are_stops.ensures.0 holds) in
    let query = c.new-query.ensures ∙ ap (λ (xs : List Source). (let asking : Asking = record { sources = xs; target = None } in asking)) c.in-Ok.ensures in
    stops_make_problem (road_behind c.args.self).network c.args.self.share.turned.network _ c.args.targets.now c.new-query.result c.args.self.share.turned.turned query
    (arc_value c.args.self.share.turned.terrain).classed are
