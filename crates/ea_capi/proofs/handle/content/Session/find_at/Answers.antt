use Rattle.std.proofs.Common.{ℕ, List, refl, subst}
use Rattle.std.specs.Prelude.{Contains, None}
use Rattle.ea_road.specs.Queries.{Asking}
use Rattle.ea_asked.specs.Asked.{HasArrivalsAt}
use Rattle.ea_capi.specs.Sessions.{answers_on}
use Rattle.ea_capi.specs.States.{road_of}
use Rattle.ea_capi.proofs.Asking.{starts_are_sources, starts_make_problem}
use Rattle.ea_capi.proofs.handle.content.Session.find_at.Goals as goal

pub new-query-requires : goal.new-query-requires
new-query-requires c = starts_are_sources (road_of c.args.self).network.nodes c.args.sources.items c.requires.starts

pub search_at-requires-clause-problem : goal.search_at-requires-clause-problem
search_at-requires-clause-problem c =
    starts_make_problem (road_of c.args.self).network _ c.args.sources.items c.new-query.result c.new-query.ensures c.keeps_classes.ensures c.requires.starts

pub returns-in-Ok-clause-found : goal.returns-in-Ok-clause-found
returns-in-Ok-clause-found c = λ _. record {
  share = refl;
  search = refl;
  walks = refl;
  asked = _;
  there = refl;
  these = refl;
  arrivals =
      let road = road_of c.args.self in
      subst (λ (it : List ℕ). HasArrivalsAt road.network (answers_on road) (record { sources = c.args.sources.items; target = None }) (Contains it) c.in-Ok.found.answer) c.deref.ensures.value
      (subst (λ (it : Asking). HasArrivalsAt road.network (answers_on road) it (Contains c.deref.result.now) c.in-Ok.found.answer) c.new-query.ensures c.in-Ok.ensures.arrivals);
}
