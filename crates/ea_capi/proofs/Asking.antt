-- A road's sources make a problem on it.
use Rattle.std.proofs.Common.{◌≡◌, ℕ, ◌≤◌, List, sym, subst}
use Rattle.std.specs.Prelude.{None}
use Rattle.std.proofs.lemmas.Option.{none-some}
use Rattle.ea_road.specs.declared.source.Source.{Source}
use Rattle.ea_road.specs.Roads.{Roads, top_class}
use Rattle.ea_road.specs.Queries.{Asking, AreSources, IsProblem}
use Rattle.ea_capi.specs.Calls.{AreStarts}

pub starts_are_sources : (nodes : ℕ) (sources : List Source) → AreStarts nodes sources → AreSources sources
starts_are_sources nodes sources are = record {
  each = λ source among. record { from_one = (are.each source among).node.from_one; within = (are.each source among).departure };
}

pub starts_make_problem : (roads : Roads) (classes : ℕ) (sources : List Source) (query : Asking) → query ≡ record { sources = sources; target = None } → top_class roads.arcs ≤ classes → AreStarts roads.nodes sources → IsProblem roads classes query
starts_make_problem roads classes sources query is classed are = subst (IsProblem roads classes) (sym is) (record {
  classed = classed;
  sources = λ source among. (are.each source among).node;
  departures = λ source among. (are.each source among).departure;
  target = λ node same. absurd (none-some _ same);
})
