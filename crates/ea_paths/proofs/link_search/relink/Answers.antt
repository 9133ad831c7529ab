use Rattle.std.proofs.Common.{◌≡◌, ℕ, ◌-◌, ◌<◌, ◌≤◌, List, length, get_or, refl, ◌∙◌, ap, inl, inr, arith}
use Rattle.std.proofs.lemmas.List.{get_or_default}
use Rattle.ea_search.specs.declared.link.Link.{Link}
use Rattle.ea_search.specs.Links.{link, no_link}
use Rattle.ea_search.proofs.Places.{link-at, link-set_same}
use Rattle.ea_paths.specs.Offers.{Precedes}
use Rattle.ea_paths.proofs.Linkings.{Offers-none, Offers-takes, Precedes-not_itself}
use Rattle.ea_paths.proofs.Offerings.{passed_one}
use Rattle.ea_paths.proofs.link_search.relink.Goals as goal

abbrev empty : Link
empty = record { level = 0; arc = 0; from = 0 }

-- what the code read is the node's link
read : (links : List Link) (v : ℕ) → 0 < v → v ≤ length links → link links v ≡ get_or links (v - 1) empty
read links v h l = link-at links v h ∙ get_or_default links (v - 1) no_link empty (omega arith)

pub returns-then-new-old : goal.returns-then-new-old
returns-then-new-old c =
    let place = c.requires.place in
    let node = place.is_node in
    let at = ap (λ (l : Link). l.level) (read c.args.links.now c.args.node node.from_one (omega (arith, place.places, node.to_last))) in
    record {
      offers = Offers-takes _ _ _ _ _ c.args.new node.from_one (omega (arith, place.places, node.to_last)) c.requires.level (inl (omega arith)) (λ _. c.add.ensures.inside) c.add.ensures.kept
          (λ w there. elim (c.add.ensures.only w there) [ inl old ↦ inl old | inr same ↦ inr (same, omega arith) ])
          (omega arith);
      passed = passed_one _ c.args.node c.args.new (rw (link-set_same c.args.links.now c.args.node c.args.new node.from_one (omega (arith, place.places, node.to_last))) (Precedes-not_itself c.args.new));
      room = c.add.ensures.nodes;
    }

pub returns-then-new-old-3 : goal.returns-then-new-old-3
returns-then-new-old-3 c =
    let place = c.requires.place in
    let node = place.is_node in
    let there = read c.args.links.now c.args.node node.from_one (omega (arith, place.places, node.to_last)) in
    let level = ap (λ (l : Link). l.level) there in
    let arc = ap (λ (l : Link). l.arc) there in
    record {
      offers = Offers-takes _ _ _ _ _ c.args.new node.from_one (omega (arith, place.places, node.to_last)) c.requires.level (inr (omega arith, omega arith)) (λ less. absurd (omega arith)) (λ w there. there)
          (λ w there. inl there)
          (omega arith);
      passed = passed_one _ c.args.node c.args.new (rw (link-set_same c.args.links.now c.args.node c.args.new node.from_one (omega (arith, place.places, node.to_last))) (Precedes-not_itself c.args.new));
      room = refl;
    }

pub returns-else-new-old-2 : goal.returns-else-new-old-2
returns-else-new-old-2 c = record {
  offers = Offers-none _ _ _ _;
  passed = passed_one _ c.args.node c.args.new worse;
  room = refl;
}
  where
    worse : Precedes c.args.new (link c.args.links.now c.args.node) → ⊥
    worse better =
        let place = c.requires.place in
        let node = place.is_node in
        let there = read c.args.links.now c.args.node node.from_one (omega (arith, place.places, node.to_last)) in
        let level = ap (λ (l : Link). l.level) there in
        let arc = ap (λ (l : Link). l.arc) there in
        elim better [
          | inl less ↦ omega arith
          | inr same ↦ elim c.else-new-old-2.either [
            | inl high ↦ omega (arith, same.0, same.1, high.1)
            | inr other ↦ omega (arith, same.0, other)
          ]
        ]
