use Rattle.std.proofs.Common.{rules, ◌≡◌, length, refl, subst, sym, ◌∙◌}
use Rattle.ea_road.specs.Queries.{IsAskedBy, IsProblem}
use Rattle.ea_road.specs.Roads.{Roads}
use Rattle.ea_search.specs.Answers.{IsAnswer}
use Rattle.ea_layout.proofs.Copying.{copied_answer, copied_stored, laid_level}
use Rattle.ea_layout.proofs.Renaming.{problem_laid}
use Rattle.ea_layout.proofs.Told.{network_of}
use Rattle.ea_layout.specs.Orders.{file_roads}
use Rattle.ea_layout.proofs.laid_search.LaidSearch.walks.Goals as goal

pub search_on-search-requires-clause-can : goal.search_on-search-requires-clause-can
search_on-search-requires-clause-can g c =
    let it = c.requires in
    let reverse = it.can.laid_out.reverse in
    record {
      problem = subst (λ (r : Roads). IsProblem r (g.T.TravelTimes.classes c.args.times.now) c.args.laid.now) (sym it.can.laid_out.network) (problem_laid (file_roads c.args.layout.now) _ c.args.query.now c.args.laid.now c.args.layout.now.places.items c.args.layout.now.nodes.items (network_of c.args.layout.now c.keeps_limits.ensures reverse) reverse it.asks it.can.problem);
      nodes = search rules;
    }

pub write_labels-requires : goal.write_labels-requires
write_labels-requires g c =
    let it = c.requires in
    let reverse = it.can.laid_out.reverse in
    let long = reverse.there_length in
    record {
      can = search rules;
      many = search rules;
      inside = rw (c.deref.ensures.value, long) reverse.there_node;
      is_node = search rules;
    }

pub write_links-requires : goal.write_links-requires
write_links-requires g c =
    let it = c.requires in
    let reverse = it.can.laid_out.reverse in
    let long = reverse.there_length in
    let answers = g.T.TravelTimes.answers c.args.times.now in
    let answer = c.search_on-search.result.answer in
    let has = subst (λ (r : Roads). IsAnswer r answers c.args.laid.now answer) it.can.laid_out.network (c.search_on-search.ensures.answer (search rules)) in
    let said = rw (c.deref.ensures.value, long, c.target.ensures.target, c.labels.ensures.labels, c.answer.ensures) at c.write_labels.ensures.copied in
    let stored = rw c.answer.ensures at c.labels.ensures.stored in
    record {
      can = search rules;
      copies = record {
        can = record { places = search rules; reverse = search rules };
        followable = rw (c.links.ensures.links, c.answer-2.ensures) (stored.followable has.walks);
      };
      is_node = search rules;
      level = λ node same some.
          let asked = sym c.target-2.ensures.target ∙ same in
          rw (c.links.ensures.links, c.answer-2.ensures) (laid_level (file_roads c.args.layout.now) answers c.args.query.now c.args.laid.now c.args.layout.now.places.items c.args.layout.now.nodes.items (network_of c.args.layout.now c.keeps_limits.ensures reverse) reverse it.can.problem.sources it.asks answer c.write_labels.new.self.labels.items c.write_labels.new.self.links.items said stored has node (it.can.problem.target node asked) (subst (λ t. IsAskedBy t node) (sym asked) refl) some);
      cleared = λ asked same. c.write_labels.ensures.cleared asked (c.target.ensures.target ∙ sym c.target-2.ensures.target ∙ same);
    }

pub new-requires : goal.new-requires
new-requires g c =
    let it = c.requires in
    let reverse = it.can.laid_out.reverse in
    let long = reverse.there_length in
    let answers = g.T.TravelTimes.answers c.args.times.now in
    let answer = c.search_on-search.result.answer in
    let has = subst (λ (r : Roads). IsAnswer r answers c.args.laid.now answer) it.can.laid_out.network (c.search_on-search.ensures.answer (search rules)) in
    let stored = rw c.answer.ensures at c.labels.ensures.stored in
    let many : length answer.links ≡ (file_roads c.args.layout.now).nodes = stored.links has.walks ∙ has.arrivals.nodes in
    let said = rw (c.deref.ensures.value, long, c.target.ensures.target, c.labels.ensures.labels, c.answer.ensures, ← c.write_links.ensures.labels) at c.write_labels.ensures.copied in
    let copied = rw (c.links.ensures.links, c.answer-2.ensures, many) at c.write_links.ensures.copied in
    let asked = rw (c.links.ensures.links, c.answer-2.ensures, many, c.target-2.ensures.target) at c.write_links.ensures.asked in
    rw (c.nodes.ensures.nodes, c.target-3.ensures.target) (copied_stored (file_roads c.args.layout.now) answers c.args.query.now c.args.laid.now c.args.layout.now.places.items c.args.layout.now.nodes.items (network_of c.args.layout.now c.keeps_limits.ensures reverse) reverse it.can.problem.sources it.asks answer c.write_links.new.self.labels.items c.write_links.new.self.links.items said stored copied asked has)

pub returns : goal.returns
returns g c =
    let it = c.requires in
    let reverse = it.can.laid_out.reverse in
    let long = reverse.there_length in
    let answers = g.T.TravelTimes.answers c.args.times.now in
    let answer = c.search_on-search.result.answer in
    let has = subst (λ (r : Roads). IsAnswer r answers c.args.laid.now answer) it.can.laid_out.network (c.search_on-search.ensures.answer (search rules)) in
    let stored = rw c.answer.ensures at c.labels.ensures.stored in
    let many : length answer.links ≡ (file_roads c.args.layout.now).nodes = stored.links has.walks ∙ has.arrivals.nodes in
    let said = rw (c.deref.ensures.value, long, c.target.ensures.target, c.labels.ensures.labels, c.answer.ensures, ← c.write_links.ensures.labels) at c.write_labels.ensures.copied in
    let copied = rw (c.links.ensures.links, c.answer-2.ensures, many) at c.write_links.ensures.copied in
    let asked = rw (c.links.ensures.links, c.answer-2.ensures, many, c.target-2.ensures.target) at c.write_links.ensures.asked in
    rw (c.new.ensures, c.nodes.ensures.nodes, c.target-3.ensures.target) (record { answer = (copied_answer (file_roads c.args.layout.now) answers c.args.query.now c.args.laid.now c.args.layout.now.places.items c.args.layout.now.nodes.items (network_of c.args.layout.now c.keeps_limits.ensures reverse) reverse it.can.problem.sources it.asks answer c.write_links.new.self.labels.items c.write_links.new.self.links.items said stored copied asked has); room = search rules })
