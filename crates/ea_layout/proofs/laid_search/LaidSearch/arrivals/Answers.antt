use Rattle.std.proofs.Common.{rules, refl, false, subst, sym}
use Rattle.ea_road.specs.Queries.{IsProblem}
use Rattle.ea_road.specs.Roads.{Roads}
use Rattle.ea_search.specs.Answers.{HasArrivals}
use Rattle.ea_layout.proofs.Copying.{copied_arrivals}
use Rattle.ea_layout.proofs.Renaming.{problem_laid}
use Rattle.ea_layout.proofs.Told.{network_of}
use Rattle.ea_layout.specs.Orders.{file_roads}
use Rattle.ea_layout.proofs.laid_search.LaidSearch.arrivals.Goals as goal

pub search_on-search-requires-clause-can : goal.search_on-search-requires-clause-can
search_on-search-requires-clause-can g c =
    let it = c.requires in
    let reverse = it.can.laid_out.reverse in
    record {
      problem = subst (λ (r : Roads). IsProblem r (g.T.TravelTimes.classes c.args.times.now) c.args.laid.now) (sym it.can.laid_out.network) (problem_laid (file_roads c.args.layout.now) _ c.args.query.now c.args.laid.now c.args.layout.now.places.items c.args.layout.now.nodes.items (network_of c.args.layout.now c.keeps_limits.ensures reverse) reverse it.asks it.can.problem);
      nodes = search rules;
    }

pub write_labels-requires : goal.write_labels-requires
write_labels-requires g c =
    let it = c.requires in
    let reverse = it.can.laid_out.reverse in
    let long = reverse.there_length in
    record {
      can = search rules;
      many = search rules;
      inside = rw (c.deref.ensures.value, long) reverse.there_node;
      is_node = search rules;
    }

pub returns : goal.returns
returns g c =
    let it = c.requires in
    let reverse = it.can.laid_out.reverse in
    let long = reverse.there_length in
    let answers = g.T.TravelTimes.answers c.args.times.now in
    let answer = c.search_on-search.result.answer in
    let has = subst (λ (r : Roads). HasArrivals r answers c.args.laid.now answer) it.can.laid_out.network c.search_on-search.ensures.arrivals in
    let said = rw (c.deref.ensures.value, long, c.target.ensures.target, c.labels.ensures.labels, c.answer.ensures) at c.write_labels.ensures.copied in
    rw (c.new.ensures, c.nodes.ensures.nodes, c.target-2.ensures.target) (record { arrivals = (copied_arrivals (file_roads c.args.layout.now) answers c.args.query.now c.args.laid.now c.args.layout.now.places.items c.args.layout.now.nodes.items (network_of c.args.layout.now c.keeps_limits.ensures reverse) reverse it.can.problem.sources it.asks answer c.write_labels.new.self.labels.items c.write_labels.new.self.links.items said false has); none = refl; room = search rules })
