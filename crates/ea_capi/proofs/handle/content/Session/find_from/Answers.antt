use Rattle.std.proofs.Common.{subst}
use Rattle.std.specs.Prelude.{IsTrue}
use Rattle.ea_capi.specs.Calls.{AreStarts}
use Rattle.ea_capi.specs.States.{road_of}
use Rattle.ea_capi.proofs.Asking.{starts_are_sources, starts_make_problem}
use Rattle.ea_capi.proofs.handle.content.Session.find_from.Goals as goal

pub new-query-requires : goal.new-query-requires
new-query-requires c =
    let holds : IsTrue c.are_starts.result = (let no = c.if-not-are_starts.false in cc) in
    let are = c.are_starts.ensures.0 holds in
    starts_are_sources c.nodes.result c.args.sources.items (subst (AreStarts c.nodes.result) c.deref.ensures.value are)

pub find-requires : goal.find-requires
find-requires c =
    let holds : IsTrue c.are_starts.result = (let no = c.if-not-are_starts.false in cc) in
    let are = c.are_starts.ensures.0 holds in
    let road = road_of c.args.self in
    starts_make_problem road.network _ c.args.sources.items c.new-query.result c.new-query.ensures c.keeps_classes.ensures
    (subst (λ n. AreStarts n c.args.sources.items) c.nodes.ensures (subst (AreStarts c.nodes.result) c.deref.ensures.value are))
