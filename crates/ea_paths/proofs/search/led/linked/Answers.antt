use Rattle.std.proofs.Common.{rules, ◌≡◌, ℕ, true, length, refl, sym, ap, ◌∙◌, ◌⊎◌, inl, inr, arith}
use Rattle.std.proofs.lemmas.Bool.{cases_eq}
use Rattle.std.proofs.lemmas.List.{with_items_is}
use Rattle.ea_road.specs.declared.TheConstants.{NONE}
use Rattle.ea_search.specs.Links.{link, no_link}
use Rattle.ea_search.specs.Listings.{IsListed}
use Rattle.ea_search.specs.Underway.{bound_of}
use Rattle.ea_search.specs.Worklist.{Worklist}
use Rattle.ea_search.proofs.Listings.{room_again}
use Rattle.ea_paths.proofs.LedAnswers.{led_is_answer, led_stored}
use Rattle.ea_paths.proofs.Guided.{fits_too}
use Rattle.ea_paths.proofs.search.led.linked.Goals as goal

pub link_all-requires : goal.link_all-requires
link_all-requires g c =
    let problem = c.requires.pair.problem in
    record {
      classed = problem.classed;
      starts = rw c.sources-sources.ensures.sources (λ source among. (problem.sources source among, problem.departures source among));
      labels = rw c.deref.ensures.value c.requires.labelled.labels;
      begins = search rules;
    }

pub new-requires : goal.new-requires
new-requires g c =
    let links = rw (c.sources-sources.ensures.sources, c.deref.ensures.value) at c.link_all.ensures.linked.are_links in
    let many = room_again _ _ _ true _ c.into_parts-waiting.ensures.links (sym (ap (λ (w : Worklist). w.nodes) c.requires.labelled.todo)) (ap (λ (w : Worklist). w.walks) c.requires.labelled.todo) in
    let filled : length c.link_all.new.links ≡ c.into_parts-waiting.result.1.len = omega (arith, many, links.places, c.into_parts-waiting.result.1.ok.0) in
    rw (with_items_is c.into_parts-waiting.result.1 c.link_all.new.links filled, c.nodes.ensures.nodes, sym c.requires.pair.asks) (led_stored c.args.network.now _ _ c.args.query.now c.args.target c.requires.pair.asks c.nodes.ensures.network c.requires.pair.problem (g.met.T.TravelTimes.fifo c.args.times.now) c.args.arrays.table.items c.requires.labelled.labels c.requires.led c.link_all.new.links links)

pub invariant_of-result : goal.invariant_of-result
invariant_of-result g c =
    let links = rw (c.sources-sources.ensures.sources, c.deref.ensures.value) at c.link_all.ensures.linked.are_links in
    let many = room_again _ _ _ true _ c.into_parts-waiting.ensures.links (sym (ap (λ (w : Worklist). w.nodes) c.requires.labelled.todo)) (ap (λ (w : Worklist). w.walks) c.requires.labelled.todo) in
    let filled : length c.link_all.new.links ≡ c.into_parts-waiting.result.1.len = omega (arith, many, links.places, c.into_parts-waiting.result.1.ok.0) in
    let nodes = c.link_all.ensures.linked.room in
    rw (c.new.ensures, with_items_is c.into_parts-waiting.result.1 c.link_all.new.links filled) (record {
      can = record {
        nobody = c.link_all.ensures.linked.nobody;
        labels = c.requires.labelled.labels ∙ sym nodes;
        links = links.places ∙ sym nodes;
        many = c.requires.labelled.lists.0;
        none = c.requires.labelled.lists.1;
        reached = c.requires.labelled.listed;
        linked = linked;
      };
      guide_fits = fits_too _ _ _ (sym nodes) c.requires.labelled.guide;
    })
  where
    -- a node without a label has no link
    linked : (v : ℕ) → (link c.link_all.new.links v ≡ no_link) ⊎ IsListed c.args.arrays.listed v
    linked v = elim (cases_eq (bound_of c.args.arrays.table.items v) NONE) [
      | inl none ↦ inl (c.link_all.ensures.labelled v (rw c.deref.ensures.value none))
      | inr has ↦ inr (c.requires.labelled.listed v has)
    ]

pub returns : goal.returns
returns g c =
    let links = rw (c.sources-sources.ensures.sources, c.deref.ensures.value) at c.link_all.ensures.linked.are_links in
    let many = room_again _ _ _ true _ c.into_parts-waiting.ensures.links (sym (ap (λ (w : Worklist). w.nodes) c.requires.labelled.todo)) (ap (λ (w : Worklist). w.walks) c.requires.labelled.todo) in
    let filled : length c.link_all.new.links ≡ c.into_parts-waiting.result.1.len = omega (arith, many, links.places, c.into_parts-waiting.result.1.ok.0) in
    rw (c.new.ensures, with_items_is c.into_parts-waiting.result.1 c.link_all.new.links filled, c.nodes.ensures.nodes, sym c.requires.pair.asks) (record { answer = (led_is_answer c.args.network.now _ _ c.args.query.now c.args.target c.requires.pair.asks c.nodes.ensures.network c.requires.pair.problem (g.met.T.TravelTimes.fifo c.args.times.now) c.args.arrays.table.items c.requires.labelled.labels c.requires.led c.link_all.new.links links); room = (c.link_all.ensures.linked.room, refl) })
