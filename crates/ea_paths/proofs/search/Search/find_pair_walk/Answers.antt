use Rattle.std.proofs.Common.{rules, ◌≡◌, ℕ, true, length, refl, sym, ap, ◌∙◌, ◌⊎◌, inl, inr, arith}
use Rattle.std.proofs.lemmas.Bool.{cases_eq}
use Rattle.std.proofs.lemmas.List.{with_items_is}
use Rattle.ea_road.specs.declared.TheConstants.{NONE}
use Rattle.ea_search.specs.Links.{link, no_link}
use Rattle.ea_search.specs.Listings.{IsListed}
use Rattle.ea_search.specs.Underway.{bound_of}
use Rattle.ea_search.specs.Worklist.{Worklist}
use Rattle.ea_paths.proofs.Answered.{is_answer, stored}
use Rattle.ea_search.proofs.Listings.{room_again}
use Rattle.ea_paths.proofs.Guided.{fits_too}
use Rattle.ea_paths.proofs.search.Search.find_pair_walk.Goals as goal

pub find-lists-requires-clause-begins : goal.find-lists-requires-clause-begins
find-lists-requires-clause-begins g c =
    let arrays = c.into_arrays-table.ensures in
    record {
      none = rw (arrays.labels, c.requires.nodes) refl;
      unmet = λ v u k had. had;
      emptied = arrays.lists;
      room = ap (λ (w : Worklist). w.nodes) arrays.todo ∙ c.requires.nodes;
    }

pub link_all-requires : goal.link_all-requires
link_all-requires g c =
    let problem = c.requires.problem in
    record {
      classed = problem.classed;
      starts = rw c.sources-sources.ensures.sources (λ source among. (problem.sources source among, problem.departures source among));
      labels = rw c.deref.ensures.value c.find-lists.ensures.ended.finished.places;
      begins = search rules;
    }

pub new-answer-requires : goal.new-answer-requires
new-answer-requires g c =
    let finished = c.find-lists.ensures.ended.finished in
    let links = rw (c.sources-sources.ensures.sources, c.deref.ensures.value) at c.link_all.ensures.linked.are_links in
    let many = room_again _ _ _ true _ c.into_parts-waiting.ensures.links (sym finished.room) (c.find-lists.ensures.walks ∙ ap (λ (w : Worklist). w.walks) c.into_arrays-table.ensures.todo ∙ c.requires.walks) in
    let filled : length c.link_all.new.links ≡ c.into_parts-waiting.result.1.len = omega (arith, many, links.places, c.into_parts-waiting.result.1.ok.0) in
    rw (with_items_is c.into_parts-waiting.result.1 c.link_all.new.links filled, c.nodes.ensures.nodes, c.target.ensures.target) (stored c.args.network.now _ _ c.args.query.now c.nodes.ensures.network c.requires.problem (g.met.T.TravelTimes.fifo c.args.times.now) c.find-lists.new.table.labels.items finished.places finished.fixed c.link_all.new.links links)

pub invariant_of-result : goal.invariant_of-result
invariant_of-result g c =
    let finished = c.find-lists.ensures.ended.finished in
    let links = rw (c.sources-sources.ensures.sources, c.deref.ensures.value) at c.link_all.ensures.linked.are_links in
    let many = room_again _ _ _ true _ c.into_parts-waiting.ensures.links (sym finished.room) (c.find-lists.ensures.walks ∙ ap (λ (w : Worklist). w.walks) c.into_arrays-table.ensures.todo ∙ c.requires.walks) in
    let filled : length c.link_all.new.links ≡ c.into_parts-waiting.result.1.len = omega (arith, many, links.places, c.into_parts-waiting.result.1.ok.0) in
    let nodes = c.link_all.ensures.linked.room in
    rw (c.new-answer.ensures, with_items_is c.into_parts-waiting.result.1 c.link_all.new.links filled) (record {
      can = record {
        nobody = c.link_all.ensures.linked.nobody;
        labels = finished.places ∙ sym nodes;
        links = links.places ∙ sym nodes;
        many = c.find-lists.ensures.ended.emptied.0;
        none = c.find-lists.ensures.ended.emptied.1;
        reached = c.find-lists.ensures.ended.listed;
        linked = linked;
      };
      guide_fits = fits_too _ _ _ (c.requires.nodes ∙ sym nodes) c.into_arrays-table.ensures.guide;
    })
  where
    -- a node without a label has no link
    linked : (v : ℕ) → (link c.link_all.new.links v ≡ no_link) ⊎ IsListed c.find-lists.new.table.listed v
    linked v = elim (cases_eq (bound_of c.find-lists.new.table.labels.items v) NONE) [
      | inl none ↦ inl (c.link_all.ensures.labelled v (rw c.deref.ensures.value none))
      | inr has ↦ inr (c.find-lists.ensures.ended.listed v has)
    ]

pub returns : goal.returns
returns g c =
    let finished = c.find-lists.ensures.ended.finished in
    let links = rw (c.sources-sources.ensures.sources, c.deref.ensures.value) at c.link_all.ensures.linked.are_links in
    let many = room_again _ _ _ true _ c.into_parts-waiting.ensures.links (sym finished.room) (c.find-lists.ensures.walks ∙ ap (λ (w : Worklist). w.walks) c.into_arrays-table.ensures.todo ∙ c.requires.walks) in
    let filled : length c.link_all.new.links ≡ c.into_parts-waiting.result.1.len = omega (arith, many, links.places, c.into_parts-waiting.result.1.ok.0) in
    rw (c.new-answer.ensures, with_items_is c.into_parts-waiting.result.1 c.link_all.new.links filled, c.nodes.ensures.nodes, c.target.ensures.target) (record { answer = (is_answer c.args.network.now _ _ c.args.query.now c.nodes.ensures.network c.requires.problem (g.met.T.TravelTimes.fifo c.args.times.now) c.find-lists.new.table.labels.items finished.places finished.fixed c.link_all.new.links links); room = (c.link_all.ensures.linked.room ∙ sym c.requires.nodes, refl) })
