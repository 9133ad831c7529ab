-- The sources are offered their departures.
use Rattle.std.proofs.Common.{◌≡◌, ℕ, ◌+◌, ◌-◌, ◌<◌, ◌≤◌, inl, inr, ap, sym, subst, ◌∙◌, arith, List, [], length, replicate, get_or, Contains}
use Rattle.std.specs.List.{IsAmong}
use Rattle.std.proofs.lemmas.Bool.Decides.{leb_tells}
use Rattle.std.proofs.lemmas.List.{get_or-replicate, get_or_default}
use Rattle.ea_road.specs.declared.TheConstants.{NONE}
use Rattle.ea_road.specs.declared.source.Source.{Source}
use Rattle.ea_road.specs.Arrivals.{Reaches}
use Rattle.ea_road.specs.Labels.{label_of}
use Rattle.ea_road.specs.Roads.{IsNode, Roads}
use Rattle.ea_road.proofs.Reached.{reaches_source}
use Rattle.ea_search.specs.Links.{AreStarts}
use Rattle.ea_goal.specs.Frontiers.{Waits}
use Rattle.ea_goal.specs.Led.{IsLed}
use Rattle.ea_goal.specs.Scans.{Offers}
use Rattle.ea_goal.specs.Seeds.{AreSeeded, StartsAt}
use Rattle.ea_goal.specs.declared.frontier.Entry.{Entry}

pub none_waits : (entries : List Entry) → length entries ≡ 0 → (time node : ℕ) → Waits entries time node → ⊥
none_waits entries none time node waits = let inside = waits.there.1 in omega (arith, inside, none)

-- before the first source no node has a label
pub seeded_none : (nodes : ℕ) (sources : List Source) (target : ℕ) (bound : ℕ → ℕ) (table : List ℕ) (entries : List Entry) → table ≡ replicate nodes NONE → entries ≡ [] → AreSeeded nodes sources target bound table entries 0
seeded_none nodes sources target bound table entries is none = record {
  first = λ place other before. absurd (omega (arith, before));
  some = λ node is_node some. absurd (some (all_none node is_node));
  opened = λ node is_node some near. absurd (some (all_none node is_node));
  keyed = λ entry there. absurd (none_contained entry there);
  are_nodes = λ at node waits. absurd (none_waits entries (ap (λ (es : List Entry). length es) none) at node waits);
}
  where
    none_contained : (entry : Entry) → Contains entries entry → ⊥
    none_contained entry there = let inside = there.1 in omega (arith, inside, ap (λ (es : List Entry). length es) none)

    all_none : (node : ℕ) → IsNode nodes node → label_of table node ≡ NONE
    all_none node is_node = ap (λ (xs : List ℕ). label_of xs node) is ∙ get_or-replicate nodes (node - 1) NONE 0 (omega (arith, is_node.from_one, is_node.to_last))

-- one more source was offered its departure
pub seeded_more : (nodes : ℕ) (sources : List Source) (target : ℕ) (bound : ℕ → ℕ) (table after : List ℕ) (entries last : List Entry) (place : ℕ) (none : Source) → place < length sources → 0 < target → AreStarts nodes sources
    → Offers target bound table entries after last (get_or sources place none).node (get_or sources place none).departure → AreSeeded nodes sources target bound table entries place → AreSeeded nodes sources target bound after last (place + 1)
seeded_more nodes sources target bound table after entries last place none inside is_target starts offers before = record {
  first = λ at other early. elim (leb_tells place at) [
    | inl this ↦
        let same : at ≡ place = omega (arith, this.1, early) in
        let is : get_or sources at other ≡ source = ap (λ k. get_or sources k other) same ∙ get_or_default sources place other none inside in
        subst (λ (s : Source). label_of after s.node ≤ s.departure) (sym is) offers.here
    | inr earlier ↦
        let low = before.first at other earlier.1 in
        let start = starts (get_or sources at other) (at, (omega (arith, earlier.1, inside), get_or_default sources at other (get_or sources at other) (omega (arith, earlier.1, inside)))) in
        omega (arith, low, offers.falls.lower (get_or sources at other).node start.0.from_one)
  ];
  some = λ node is_node some. elim (offers.labels node is_node.from_one) [
    | inl same ↦ subst (λ t. StartsAt sources node t) (sym same) (before.some node is_node (λ gone. some (same ∙ gone)))
    | inr at ↦ record { source = source; among = among; is_node = sym at.0; departs = sym at.1 }
  ];
  opened = λ node is_node some near. elim (leb_tells (label_of table node) (label_of after node)) [
    | inl stays ↦
        let same : label_of table node ≡ label_of after node = omega (arith, stays.1, offers.falls.lower node is_node.from_one) in
        elim (before.opened node is_node (λ gone. some (sym same ∙ gone)) near) [
          | inl waits ↦ inl (subst (λ t. Waits last t node) same (offers.falls.kept (label_of table node) node waits))
          | inr far ↦ inr (omega (arith, far, same, offers.falls.lower target is_target))
        ]
    | inr fell ↦ offers.falls.fallen node is_node.from_one fell.1 near
  ];
  keyed = offers.falls.keyed before.keyed;
  are_nodes = λ at node waits. elim (offers.came at node waits) [
    | inl old ↦ before.are_nodes at node old
    | inr is ↦ subst (λ n. IsNode nodes n) (sym is) (starts source among).0
  ];
}
  where
    source : Source
    source = get_or sources place none

    among : IsAmong sources (get_or sources place none)
    among = (place, (inside, get_or_default sources place none (get_or sources place none) inside))

-- with all sources the search is led
pub seeded_all : (roads : Roads) (answers : ℕ → ℕ → ℕ → ℕ → Type 0) (sources : List Source) (target : ℕ) (bound : ℕ → ℕ) (table : List ℕ) (entries : List Entry) → AreStarts roads.nodes sources → AreSeeded roads.nodes sources target bound table entries (length sources) → IsLed roads answers sources target bound (label_of table) (Waits entries)
seeded_all roads answers sources target bound table entries starts seeded = record {
  at_sources = λ source among. at_source source (get_or sources among.0 source) (sym among.1.1) (seeded.first among.0 source among.1.0);
  reached = λ node is_node some.
      let at = seeded.some node is_node some in
      let within = (starts at.source at.among).1 in
      subst (λ n. Reaches roads answers sources n (label_of table node)) at.is_node (subst (λ t. Reaches roads answers sources at.source.node t) at.departs (reaches_source roads answers sources at.source at.among within));
  settled = λ node is_node some near. elim (seeded.opened node is_node some near) [
    | inl waits ↦ inr (inr waits)
    | inr far ↦ inr (inl far)
  ];
}
  where
    at_source : (source found : Source) → found ≡ source → label_of table found.node ≤ found.departure → label_of table source.node ≤ source.departure
    at_source source found same low = subst (λ (s : Source). label_of table s.node ≤ s.departure) same low

-- when no node waits, none is open
pub led_none : (roads : Roads) (answers : ℕ → ℕ → ℕ → ℕ → Type 0) (sources : List Source) (target : ℕ) (bound label : ℕ → ℕ) (entries : List Entry) → length entries ≡ 0 → IsLed roads answers sources target bound label (Waits entries) → IsLed roads answers sources target bound label (λ time node. ⊥)
led_none roads answers sources target bound label entries none led = record {
  at_sources = led.at_sources;
  reached = led.reached;
  settled = λ node is_node some near. elim (led.settled node is_node some near) [
    | inl satisfied ↦ inl satisfied
    | inr (inl far) ↦ inr (inl far)
    | inr (inr waits) ↦ absurd (none_waits entries none (label node) node waits)
  ];
}
