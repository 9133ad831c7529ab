-- Repairing links.
use Rattle.std.proofs.Common.{◌≡◌, ℕ, Bool, zero, suc, ◌+◌, ◌-◌, ◌<◌, ◌≤◌, List, [], ◌∷◌, length, get_or, Contains, refl, sym, ◌∙◌, ap, subst, ◌⊎◌, inl, inr, arith}
use Rattle.std.proofs.lemmas.Bool.{cases_lt}
use Rattle.std.proofs.lemmas.List.{get_or_default, get_or_past}
use Rattle.ea_road.specs.declared.source.Source.{Source}
use Rattle.ea_road.specs.Roads.{Roads}
use Rattle.ea_search.specs.declared.link.Link.{Link}
use Rattle.ea_search.specs.declared.link.TheConstants.{NO_LEVEL}
use Rattle.ea_search.specs.Worklist.{Ring}
use Rattle.ea_paths.specs.Mended.{AreMended, AreReady, IsReady, KeepsMended, MendsNode}
use Rattle.ea_search.specs.Links.{link, no_link}
use Rattle.ea_paths.specs.Offers.{IsSeed, IsSpent, IsSpread, Offers, Precedes, MeetsBound}
use Rattle.ea_paths.proofs.Linked.{Settled}
use Rattle.ea_search.proofs.Worklists.{Contains-cons_cases}
use Rattle.ea_paths.proofs.Linkings.{Offers-lower, Offers-passed}
use Rattle.ea_search.proofs.Places.{link-at}

-- no node waits in a list of length 0
pub nobody_in : (waiting : List ℕ) → length waiting ≡ 0 → (v : ℕ) → Contains waiting v → ⊥
nobody_in waiting none v there = omega (arith, there.1)

-- a number that is no node's has no level
pub link-zero : (links : List Link) (v : ℕ) → v ≤ 0 → (link links v).level ≡ NO_LEVEL
unfolding link
link-zero links zero first = refl
link-zero links (suc k) first = absurd (omega arith)

pub link-past : (links : List Link) (v : ℕ) → length links < v → (link links v).level ≡ NO_LEVEL
unfolding link
link-past links zero past = absurd (omega arith)
link-past links (suc k) past = ap (λ (l : Link). l.level) (get_or_past links k no_link (omega arith))

-- the link that the code reads at a place is the next node's
pub link-next : (links : List Link) (place : ℕ) (default : Link) → place < length links → get_or links place default ≡ link links (place + 1)
link-next links place default inside =
    let e : place + 1 - 1 ≡ place = omega arith in
    sym (link-at links (place + 1) (omega arith) ∙ ap (λ (k : ℕ). get_or links k no_link) e ∙ get_or_default links place no_link default inside)

-- a number that is no node's needs no room above it
pub Ready-none : (links : List Link) (v : ℕ) → v ≤ 0 → IsReady (link links v)
Ready-none links v first there = let none = link-zero links v first in absurd (omega arith)

pub Ready-more : (links : List Link) (place : ℕ) → ((v : ℕ) → v ≤ place → IsReady (link links v)) → IsReady (link links (place + 1)) → (v : ℕ) → v ≤ place + 1 → IsReady (link links v)
Ready-more links place before here v most = elim (cases_lt v (place + 1)) [
  | inl early ↦ before v (omega arith)
  | inr late ↦ (
      let at : place + 1 ≡ v = omega arith in
      let P : ℕ → Type 0 = λ x. IsReady (link links x) in
      subst P at here)
]

pub Ready-all : (links : List Link) (count : ℕ) → length links ≤ count → ((v : ℕ) → v ≤ count → IsReady (link links v)) → AreReady links
Ready-all links count all each v there = elim (cases_lt count v) [
  | inl past ↦ (let none = link-past links v (omega arith) in absurd (omega arith))
  | inr inside ↦ each v inside there
]

-- room above a link depends on levels alone
pub Ready-same : (links links' : List Link) → ((v : ℕ) → (link links' v).level ≡ (link links v).level) → AreReady links → AreReady links'
Ready-same links links' same ready v = let P : ℕ → Type 0 = λ n. n < NO_LEVEL → n + 1 < NO_LEVEL in subst P (sym (same v)) (ready v)

-- The node in front had room above it and offered links: each node whose level fell waits.
pub Ready-mended : (nodes : ℕ) (offer : ℕ → Link → Type 0) (u : ℕ) (links links' : List Link) (waiting waiting' : List ℕ) → ((v : ℕ) → IsReady (link links v) ⊎ Contains (u ∷ waiting) v) → Offers nodes offer links waiting links' waiting' → IsReady (link links u) → (v : ℕ) → IsReady (link links' v) ⊎ Contains waiting' v
Ready-mended nodes offer u links links' waiting waiting' before offers here v = elim (cases_lt (link links' v).level (link links v).level) [
  | inl fell ↦ inr (offers.fallen v fell)
  | inr stays ↦ (
      let low = Offers-lower nodes offer links links' waiting waiting' offers v in
      let same : (link links v).level ≡ (link links' v).level = omega arith in
      let P : ℕ → Type 0 = λ n. n < NO_LEVEL → n + 1 < NO_LEVEL in
      elim (before v) [
        | inl ready ↦ inl (subst P same ready)
        | inr waits ↦ elim (Contains-cons_cases u v waiting waits) [
          | inl is_u ↦ (
              let Q : ℕ → Type 0 = λ x. IsReady (link links x) in
              inl (subst P same (subst Q is_u here)))
          | inr other ↦ inr (offers.kept v other)
        ]
      ])
]

module _ (roads : Roads) (answers : ℕ → ℕ → ℕ → ℕ → Type 0) (sources : List Source) (table : List ℕ) where
  -- links by the tight arcs from a node were offered
  module _ (u : ℕ) (links links' : List Link) (waiting waiting' : List ℕ) (offers : Offers roads.nodes (IsSpread roads answers table u ((link links u).level + 1)) links waiting links' waiting') where
    abbrev Good : ℕ → Link → Type 0
    Good v l = ((l.level ≡ 0) × IsSeed sources table v) ⊎ (MeetsBound roads answers table l.from l.arc v × ((link links' l.from).level < l.level))

    falls : (v : ℕ) → (link links' v).level ≤ (link links v).level
    falls = Offers-lower roads.nodes (IsSpread roads answers table u ((link links u).level + 1)) links links' waiting waiting' offers

    linked_still : (before : List ℕ) → AreMended roads answers sources table links before → (v : ℕ) → (link links' v).level < NO_LEVEL → Good v (link links' v)
    linked_still before mended v there = elim (offers.each v) [
      | inl same ↦ (
          let at = ap (λ (l : Link). l.level) same in
          subst (Good v) (sym same) (elim (mended.linked v (omega arith)) [
            | inl seed ↦ inl seed
            | inr tight ↦ inr (tight.0, (let low = falls (link links v).from in let was = tight.1 in omega arith))
          ]))
      | inr new ↦ (
          let spread = new.0 in
          let low = falls u in
          subst (Good v) (sym spread.2) (inr (spread.1, omega arith)))
    ]

    -- what was passed before stays passed, or the arc's tail waits now
    passed_still : (e w v level : ℕ) → level ≡ (link links w).level → (Precedes (record { level = (link links w).level + 1; arc = e; from = w }) (link links v) → ⊥) → Precedes (record { level = level + 1; arc = e; from = w }) (link links' v) → ⊥
    passed_still e w v level same was =
        let P : ℕ → Type 0 = λ n. Precedes (record { level = n + 1; arc = e; from = w }) (link links' v) → ⊥ in
        subst P (sym same) (Offers-passed roads.nodes (IsSpread roads answers table u ((link links u).level + 1)) links links' waiting waiting' offers v (record { level = (link links w).level + 1; arc = e; from = w }) was)

  -- the node in front offered its links again
  pub AreMended-more : (u : ℕ) (links links' : List Link) (waiting waiting' : List ℕ) → AreMended roads answers sources table links (u ∷ waiting) → Offers roads.nodes (IsSpread roads answers table u ((link links u).level + 1)) links waiting links' waiting' → ((link links u).level + 1 < NO_LEVEL → IsSpent roads answers table links' u ((link links u).level + 1)) → AreMended roads answers sources table links' waiting'
  AreMended-more u links links' waiting waiting' before offers spent = record {
    places = offers.places ∙ before.places;
    low = λ v. (let low = lower v in let was = before.low v in omega arith);
    linked = linked_still u links links' waiting waiting' offers (u ∷ waiting) before;
    passed = passed;
  }
    where
      lower : (v : ℕ) → (link links' v).level ≤ (link links v).level
      lower = falls u links links' waiting waiting' offers

      now : (e w v level : ℕ) → u ≡ w → level ≡ (link links w).level → MeetsBound roads answers table w e v → (link links w).level + 1 < NO_LEVEL → Precedes (record { level = level + 1; arc = e; from = w }) (link links' v) → ⊥
      now e w v level is_u same tight room =
          let Q : ℕ → Type 0 = λ x. (link links x).level + 1 < NO_LEVEL → IsSpent roads answers table links' x ((link links x).level + 1) in
          let R : ℕ → Type 0 = λ n. Precedes (record { level = n + 1; arc = e; from = w }) (link links' v) → ⊥ in
          subst R (sym same) (subst Q is_u spent room e v tight)

      passed : (e w v : ℕ) → MeetsBound roads answers table w e v → (link links' w).level + 1 < NO_LEVEL → (Precedes (record { level = (link links' w).level + 1; arc = e; from = w }) (link links' v) → ⊥) ⊎ Contains waiting' w
      passed e w v tight room = elim (cases_lt (link links' w).level (link links w).level) [
        | inl fell ↦ inr (offers.fallen w fell)
        | inr stays ↦ (
            let low = lower w in
            let same : (link links' w).level ≡ (link links w).level = omega arith in
            elim (before.passed e w v tight (omega arith)) [
              | inl was ↦ inl (passed_still u links links' waiting waiting' offers e w v (link links' w).level same was)
              | inr waits ↦ elim (Contains-cons_cases u w waiting waits) [
                | inl is_u ↦ inl (now e w v (link links' w).level is_u same tight (omega arith))
                | inr other ↦ inr (offers.kept w other)
              ]
            ])
      ]

  -- if no node waits and each link is ready
  pub Settled-mended : (links : List Link) (waiting : List ℕ) → waiting ≡ [] → AreMended roads answers sources table links waiting → AreReady links → Settled roads answers sources table links
  Settled-mended links waiting nobody mended ready = record {
    places = mended.places;
    linked = mended.linked;
    spent = λ u there e v tight better. elim (mended.passed e u v tight (ready u there)) [
      | inl never ↦ never better
      | inr waits ↦ nobody_in waiting (ap length nobody) u waits
    ];
    room = ready;
    low = mended.low;
  }

-- one more node was repaired
pub KeepsMended-more : (roads : Roads) (answers : ℕ → ℕ → ℕ → ℕ → Type 0) (table : List ℕ) (u : ℕ) (goes_on : Bool) (first links links' : List Link) (start before waiting waiting' : Ring) → before.waiting ≡ u ∷ waiting.waiting → waiting.nodes ≡ before.nodes → KeepsMended roads answers table first start links before → MendsNode roads answers table u goes_on links waiting links' waiting' → KeepsMended roads answers table first start links' waiting'
KeepsMended-more roads answers table u goes_on first links links' start before waiting waiting' taken nodes kept mends = record {
  places = record {
    places = mends.offers.places ∙ kept.places.places;
    room = mends.room ∙ nodes ∙ kept.places.room;
  };
  mended = λ sources begun.
      let P : List ℕ → Type 0 = λ xs. AreMended roads answers sources table links xs in
      AreMended-more roads answers sources table u links links' waiting.waiting waiting'.waiting (subst P taken (kept.mended sources begun)) mends.offers mends.spent;
  lower = λ v. (let falls = Offers-lower _ _ _ _ _ _ mends.offers v in let low = kept.lower v in omega arith);
}
