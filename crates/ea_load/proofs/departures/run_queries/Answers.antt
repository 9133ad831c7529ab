use Rattle.std.proofs.Common.{sym, ◌∙◌, subst}
use Rattle.std.specs.Prelude.{All}
use Rattle.ea_road.specs.Queries.{AreSources, IsSource}
use Rattle.ea_load.specs.Starts.{plan_of}
use Rattle.ea_load.proofs.Departing.{all_are_sources, are_sources}
use Rattle.ea_load.proofs.departures.run_queries.Goals as goal

pub new-requires : goal.new-requires
new-requires c = subst AreSources (sym c.in_ok-sources.ensures) (are_sources _ (all_are_sources (plan_of c.args.schedule) c.args.nodes.now c.requires.nodes c.requires.within))

pub queries_from-requires : goal.queries_from-requires
queries_from-requires c = subst (All IsSource) (sym (c.deref.ensures.value ∙ c.in_ok-sources.ensures)) (all_are_sources (plan_of c.args.schedule) c.args.nodes.now c.requires.nodes c.requires.within)
