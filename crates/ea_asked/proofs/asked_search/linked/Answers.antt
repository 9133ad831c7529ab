use Rattle.std.proofs.Common.{◌≡◌, ◌⊎◌, ℕ, Contains, length, ap, refl, ◌∙◌, inl, inr, arith, rules, List}
use Rattle.std.proofs.lemmas.Bool.{cases_eq}
use Rattle.std.proofs.lemmas.List.{length-replicate, with_items_is}
use Rattle.ea_road.specs.declared.TheConstants.{NONE}
use Rattle.ea_search.specs.Links.{link, no_link}
use Rattle.ea_search.specs.Listings.{IsListed}
use Rattle.ea_search.specs.Underway.{bound_of}
use Rattle.ea_search.specs.declared.link.Link.{Link}
use Rattle.ea_asked.specs.Asked.{IsAnswerAt}
use Rattle.ea_asked.proofs.Answering.{is_answer_at, stored_with}
use Rattle.ea_asked.proofs.asked_search.linked.Goals as goal

pub link_all-requires : goal.link_all-requires
link_all-requires g c = record {
  classed = c.requires.asks.problem.classed;
  starts = rw c.sources-sources.ensures.sources (λ source among. (c.requires.asks.problem.sources source among, c.requires.asks.problem.departures source among));
  labels = rw c.deref.ensures.value c.requires.show.answer.count;
  begins = record {
    none = search rules;
    nobody = c.requires.show.answer.blank.nobody;
    room = c.requires.show.answer.blank.waits;
  };
}

pub new-requires : goal.new-requires
new-requires g c =
    let links = rw (c.sources-sources.ensures.sources, c.deref.ensures.value) at c.link_all.ensures.linked.are_links in
    let many = ap (λ (xs : List Link). length xs) c.requires.show.answer.blank.links ∙ length-replicate c.args.network.now.nodes no_link in
    let filled : length c.link_all.new.links ≡ c.args.arrays.links.len = omega (arith, many, links.places, c.args.arrays.links.ok.0) in
    rw (with_items_is c.args.arrays.links c.link_all.new.links filled, c.nodes.ensures.nodes) (stored_with c.args.network.now _ _ c.args.query.now c.nodes.ensures.network c.requires.asks.problem (g.met.T.TravelTimes.fifo c.args.times.now) c.args.arrays.table.items c.args.asked.now c.show.new.labels.items c.requires.show.answer.count c.requires.show.are_nodes c.requires.led (rw c.deref-2.ensures.value at c.show.ensures.shows) c.link_all.new.links links)

pub invariant_of-result : goal.invariant_of-result
invariant_of-result g c =
    let links = rw (c.sources-sources.ensures.sources, c.deref.ensures.value) at c.link_all.ensures.linked.are_links in
    let many = ap (λ (xs : List Link). length xs) c.requires.show.answer.blank.links ∙ length-replicate c.args.network.now.nodes no_link in
    let filled : length c.link_all.new.links ≡ c.args.arrays.links.len = omega (arith, many, links.places, c.args.arrays.links.ok.0) in
    rw (c.new.ensures, with_items_is c.args.arrays.links c.link_all.new.links filled, c.nodes.ensures.nodes) (record {
      places = c.requires.show.answer.count;
      labels = rw c.deref-2.ensures.value at c.show.ensures.shows.places ∙ c.requires.show.answer.count;
      links = links.places;
      waits = c.link_all.ensures.linked.room;
      nobody = c.link_all.ensures.linked.nobody;
      reached = c.requires.show.listed;
      linked = linked;
      shown = c.show.ensures.listed;
    })
  where
    -- a node without a label has no link
    linked : (v : ℕ) → (link c.link_all.new.links v ≡ no_link) ⊎ IsListed c.args.arrays.listed v
    linked v = elim (cases_eq (bound_of c.args.arrays.table.items v) NONE) [
      | inl none ↦ inl (c.link_all.ensures.labelled v (rw c.deref.ensures.value none))
      | inr has ↦ inr (c.requires.show.listed v has)
    ]

pub returns : goal.returns
returns g c =
    let links = rw (c.sources-sources.ensures.sources, c.deref.ensures.value) at c.link_all.ensures.linked.are_links in
    let many = ap (λ (xs : List Link). length xs) c.requires.show.answer.blank.links ∙ length-replicate c.args.network.now.nodes no_link in
    let filled : length c.link_all.new.links ≡ c.args.arrays.links.len = omega (arith, many, links.places, c.args.arrays.links.ok.0) in
    let is : IsAnswerAt c.args.network.now (g.T.TravelTimes.answers c.args.times.now) c.args.query.now (Contains c.args.asked.now) c.new.result = rw (c.new.ensures, with_items_is c.args.arrays.links c.link_all.new.links filled, c.nodes.ensures.nodes) (is_answer_at c.args.network.now _ _ c.args.query.now c.nodes.ensures.network c.requires.asks.problem (g.met.T.TravelTimes.fifo c.args.times.now) c.args.arrays.table.items c.args.asked.now c.show.new.labels.items c.requires.show.answer.count c.requires.show.are_nodes c.requires.led (rw c.deref-2.ensures.value at c.show.ensures.shows) c.link_all.new.links links c.requires.asks.all) in
    record {
      arrivals = is.arrivals;
      answer = λ on. is;
      room = record { nodes = is.arrivals.nodes; walks = refl };
    }
