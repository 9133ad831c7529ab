-- The effect of sowing all sources, over any links.
use Rattle.std.proofs.Common.{◌≡◌, ℕ, ◌+◌, ◌<◌, ◌≤◌, List, replicate, Contains, refl, sym, ◌∙◌, ap, subst, ◌⊎◌, inl, inr, arith}
use Rattle.std.specs.List.{IsAmong}
use Rattle.std.proofs.lemmas.Bool.{cases_lt, cases_eq}
use Rattle.std.proofs.lemmas.List.{length-replicate}
use Rattle.ea_base.specs.declared.limits.TheConstants.{HORIZON}
use Rattle.ea_road.specs.declared.source.Source.{Source}
use Rattle.ea_road.specs.Roads.{Roads}
use Rattle.ea_search.specs.declared.link.Link.{Link}
use Rattle.ea_search.specs.declared.link.TheConstants.{NO_LEVEL}
use Rattle.ea_search.specs.Links.{link, no_link}
use Rattle.ea_search.specs.Notes.{by_none}
use Rattle.ea_paths.specs.Offers.{IsOne, IsSeed, Offers, Precedes}
use Rattle.ea_paths.specs.Replayed.{AreReplayed, IsSeedLink, with_number}
use Rattle.ea_search.specs.Scans.{number_at}
use Rattle.ea_search.specs.Underway.{bound_of}
use Rattle.ea_paths.proofs.Linkings.{Offers-lower, Offers-none, Offers-weaker, link-none}

abbrev seed : Link
seed = record { level = 0; arc = 0; from = 0 }

-- one source was sown
pub record SownOne (nodes : ℕ) (sources : List Source) (table : List ℕ) (source : Source) (links links' : List Link) (waiting waiting' : List ℕ) : Type 0 where
  pub offers : Offers nodes (IsSeedLink sources table) links waiting links' waiting'
  pub here : source.departure ≡ bound_of table source.node → (link links' source.node).level ≡ 0

pub sow_one : (nodes : ℕ) (sources : List Source) (table : List ℕ) (source : Source) (links links' : List Link) (waiting waiting' : List ℕ) → IsAmong sources source → source.departure ≤ HORIZON → (source.departure ≡ bound_of table source.node → Offers nodes (IsOne source.node seed) links waiting links' waiting' × ((link links' source.node).level ≡ 0)) → ((source.departure ≡ bound_of table source.node → ⊥) → (links' ≡ links) × (waiting' ≡ waiting)) → SownOne nodes sources table source links links' waiting waiting'
sow_one nodes sources table source links links' waiting waiting' among within seeds others = elim (cases_eq source.departure (bound_of table source.node)) [
  | inl departs ↦ record {
    offers = Offers-weaker nodes (IsOne source.node seed) (IsSeedLink sources table) links links' waiting waiting' (wider departs) (seeds departs).0;
    here = λ _. (seeds departs).1;
  }
  | inr differs ↦ (
      let kept = others differs in
      let P : List Link → Type 0 = λ xs. Offers nodes (IsSeedLink sources table) links waiting xs waiting' in
      let Q : List ℕ → Type 0 = λ xs. Offers nodes (IsSeedLink sources table) links waiting links xs in
      record {
        offers = subst P (sym kept.0) (subst Q (sym kept.1) (Offers-none nodes (IsSeedLink sources table) links waiting));
        here = λ departs. absurd (differs departs);
      })
]
  where
    wider : source.departure ≡ bound_of table source.node → (v : ℕ) (l : Link) → IsOne source.node seed v l → IsSeedLink sources table v l
    wider departs v l one =
        let P : ℕ → Type 0 = λ x. IsSeed sources table x in
        (subst P (sym one.0) (record { source = source; among = among; is_node = refl; departs = departs; within = within }), one.1)

module _ (roads : Roads) (sources : List Source) (table : List ℕ) where
  -- links that are none, before any note
  pub AreReplayed-none : (waiting : List ℕ) → AreReplayed roads sources table by_none by_none (replicate roads.nodes no_link) waiting
  AreReplayed-none waiting = record {
    places = length-replicate roads.nodes no_link;
    low = λ v. (let e = level v in omega arith);
    linked = λ v there. (let e = level v in absurd (omega arith));
    passed = λ v u k never room. absurd never;
  }
    where
      level : (v : ℕ) → (link (replicate roads.nodes no_link) v).level ≡ NO_LEVEL
      level v = ap (λ (l : Link). l.level) (link-none roads.nodes v)

  module _ (had met : ℕ → ℕ → ℕ → Type 0) (nodes : ℕ) (links links' : List Link) (waiting waiting' : List ℕ) (before : AreReplayed roads sources table had met links waiting) (offers : Offers nodes (IsSeedLink sources table) links waiting links' waiting') where
    lower : (v : ℕ) → (link links' v).level ≤ (link links v).level
    lower = Offers-lower nodes (IsSeedLink sources table) links links' waiting waiting' offers

    abbrev Linked : ℕ → Link → Type 0
    Linked v l = ((l.level ≡ 0) × ((l.from ≡ 0) × IsSeed sources table v)) ⊎ had v l.from l.arc

    linked : (v : ℕ) → (link links' v).level < NO_LEVEL → Linked v (link links' v)
    linked v there = elim (offers.each v) [
      | inl same ↦ (
          let e = ap (λ (l : Link). l.level) same in
          subst (Linked v) (sym same) (before.linked v (omega arith)))
      | inr new ↦ inl (ap (λ (l : Link). l.level) new.0.1, (ap (λ (l : Link). l.from) new.0.1, new.0.0))
    ]

    -- what did not precede does not precede now, since only a seed was added
    still : (v : ℕ) (x : Link) → 0 < x.level → (Precedes x (with_number roads (link links v)) → ⊥) → Precedes x (with_number roads (link links' v)) → ⊥
    still v x above was = elim (offers.each v) [
      | inl same ↦ (
          let P : Link → Type 0 = λ l. Precedes x (with_number roads l) → ⊥ in
          subst P (sym same) was)
      | inr new ↦ (
          let P : Link → Type 0 = λ l. Precedes x (with_number roads l) → ⊥ in
          subst P (sym new.0.1) none)
    ]
      where
        none : Precedes x (with_number roads seed) → ⊥
        none (inl less) = omega arith
        none (inr same) = omega (arith, same.0)

    passed : (v u k : ℕ) → met v u k → (link links' u).level + 1 < NO_LEVEL → (Precedes (record { level = (link links' u).level + 1; arc = number_at roads u k; from = u }) (with_number roads (link links' v)) → ⊥) ⊎ Contains waiting' u
    passed v u k was room = elim (cases_lt (link links' u).level (link links u).level) [
      | inl fell ↦ inr (offers.fallen u fell)
      | inr stays ↦ (
          let low = lower u in
          let same : (link links' u).level ≡ (link links u).level = omega arith in
          let P : ℕ → Type 0 = λ n. Precedes (record { level = n + 1; arc = number_at roads u k; from = u }) (with_number roads (link links' v)) → ⊥ in
          elim (before.passed v u k was (omega arith)) [
            | inl never ↦ inl (subst P (sym same) (still v (record { level = (link links u).level + 1; arc = number_at roads u k; from = u }) (omega arith) never))
            | inr waits ↦ inr (offers.kept u waits)
          ])
    ]

    pub AreReplayed-sown : AreReplayed roads sources table had met links' waiting'
    AreReplayed-sown = record {
      places = offers.places ∙ before.places;
      low = λ v. (let falls = lower v in let was = before.low v in omega arith);
      linked = linked;
      passed = passed;
    }
