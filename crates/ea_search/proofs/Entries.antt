-- How lowering labels and scanning arcs change a table that is under way.
use Rattle.std.proofs.Common.{◌≡◌, ◌≢◌, ℕ, zero, suc, ◌+◌, ◌-◌, ◌<◌, ◌≤◌, List, Option, [], ◌∷◌, ◌++◌, length, get_or, set, replicate, sum, Contains, Some, None, refl, sym, ◌∙◌, ap, subst, ◌⊎◌, inl, inr, arith}
use Rattle.std.specs.List.{IsAmong}
use Rattle.std.proofs.lemmas.Bool.{cases_lt, cases_eq}
use Rattle.std.proofs.lemmas.List.{get_or-set_same, get_or-set_other, length-set, get_or_past, get_or_default, get_or-replicate, length-replicate}
use Rattle.std.proofs.lemmas.List.Sums.{sum_by-set}
use Rattle.std.proofs.lemmas.List.Elements.{Contains-append_cases, Contains-append_left, Contains-push, Contains-push_cases}
use Rattle.ea_road.specs.declared.arc.Arc.{Arc}
use Rattle.ea_road.specs.declared.source.Source.{Source}
use Rattle.ea_base.specs.declared.limits.TheConstants.{HORIZON}
use Rattle.ea_road.specs.declared.TheConstants.{NONE}
use Rattle.ea_road.specs.Roads.{Roads, IsArc, IsNode}
use Rattle.ea_road.specs.Arrivals.{Reaches, stays}
use Rattle.ea_road.specs.Labels.{label_of, limit}
use Rattle.ea_road.proofs.Arcs.{one_arc}
use Rattle.ea_road.proofs.Reached.{reaches_more}
use Rattle.ea_search.specs.Scans.{KeepsLess, KeepsMet, IsMet, IsPlaced, MeetsAll, Scanned, Step, AwaitsScansFrom}
use Rattle.ea_search.specs.Underway.{bound_of}
use Rattle.ea_search.proofs.Worklists.{Contains-cons_cases}

-- two ways to say that a list has an element
contains_of : (sources : List Source) (source : Source) → IsAmong sources source → Contains sources source
contains_of sources source among = (among.0, among.1.0, sym among.1.1)

among_of : (sources : List Source) (source : Source) → Contains sources source → IsAmong sources source
among_of sources source contains = (contains.0, (contains.1, sym contains.2))

among_left : (sources others : List Source) (source : Source) → IsAmong sources source → IsAmong (sources ++ others) source
among_left sources others source among = among_of (sources ++ others) source (Contains-append_left sources others source (contains_of sources source among))

among_push : (sources : List Source) (source : Source) → IsAmong (sources ++ source ∷ []) source
among_push sources source = among_of (sources ++ source ∷ []) source (Contains-push sources source)

among_push_cases : (sources : List Source) (source other : Source) → IsAmong (sources ++ source ∷ []) other → IsAmong sources other ⊎ (source ≡ other)
among_push_cases sources source other among = elim (Contains-push_cases sources source other (contains_of (sources ++ source ∷ []) other among)) [
  | inl old ↦ inl (among_of sources other old)
  | inr new ↦ inr new
]

pub bound_of-at : (table : List ℕ) (v : ℕ) → 0 < v → bound_of table v ≡ get_or table (v - 1) NONE
unfolding bound_of
bound_of-at table zero h = absurd (omega arith)
bound_of-at table (suc k) h = let e : suc k - 1 ≡ k = omega arith in rw e refl

pub bound_of-set_same : (table : List ℕ) (v x : ℕ) → 0 < v → v ≤ length table → bound_of (set table (v - 1) x) v ≡ x
bound_of-set_same table v x h l = bound_of-at (set table (v - 1) x) v h ∙ get_or-set_same table (v - 1) x NONE (omega arith)

pub bound_of-set_other : (table : List ℕ) (v w x : ℕ) → 0 < v → w ≢ v → bound_of (set table (v - 1) x) w ≡ bound_of table w
unfolding bound_of
bound_of-set_other table v zero x h ne = refl
bound_of-set_other table v (suc k) x h ne = get_or-set_other table (v - 1) k x NONE (omega arith)

-- a number with a label is a node's
pub bound_of-node : (table : List ℕ) (v : ℕ) → bound_of table v ≢ NONE → (0 < v) × (v ≤ length table)
unfolding bound_of
bound_of-node table zero h = absurd (omega arith)
bound_of-node table (suc k) h = elim (cases_lt k (length table)) [
  | inl l ↦ (omega arith, omega arith)
  | inr l ↦ (let e = get_or_past table k NONE l in absurd (omega arith))
]

-- a label falls, and its node waits
pub KeepsLess-falls : (table : List ℕ) (waits waits' : ℕ → Type 0) (v t : ℕ) → 0 < v → v ≤ length table → t < bound_of table v → waits' v → ((w : ℕ) → waits w → waits' w) → KeepsLess v t table waits (set table (v - 1) t) waits'
KeepsLess-falls table waits waits' v t h l falls there kept = record {
  places = length-set table (v - 1) t;
  least = (let e = bound_of-set_same table v t h l in omega arith);
  others = λ w ne. bound_of-set_other table v w t h ne;
  opened = λ _. there;
  kept = kept;
}

-- a node whose label is as before is another than the one whose label fell
pub is_other : (table table' : List ℕ) (v t w : ℕ) → table' ≡ set table (v - 1) t → 0 < v → v ≤ length table → t < bound_of table v → bound_of table' w ≡ bound_of table w → w ≢ v
is_other table table' v t w is from_one inside less same here =
    let F : ℕ → Type 0 = λ x. bound_of table' x ≡ bound_of table x in
    let still : bound_of table' v ≡ bound_of table v = subst F here same in
    let now : bound_of table' v ≡ t = ap (λ xs. bound_of xs v) is ∙ bound_of-set_same table v t from_one inside in
    omega arith

-- the table's sum falls by what the label falls
pub sum-falls : (table : List ℕ) (v t : ℕ) → 0 < v → v ≤ length table → t < bound_of table v → sum (set table (v - 1) t) + 1 ≤ sum table
sum-falls table v t h l falls =
    let e = sum_by-set (λ (x : ℕ). x) table (v - 1) t NONE (omega arith) in
    let was = bound_of-at table v h in
    omega arith

-- a label that is low enough stays
pub KeepsLess-stays : (table : List ℕ) (waits : ℕ → Type 0) (v t : ℕ) → bound_of table v ≤ t → KeepsLess v t table waits table waits
KeepsLess-stays table waits v t h = record {
  places = refl;
  least = omega arith;
  others = λ w ne. refl;
  opened = λ f. absurd (omega arith);
  kept = λ w c. c;
}

-- a node's entry is its label
pub bound_of_label : (table : List ℕ) (node : ℕ) → IsNode (length table) node → bound_of table node ≡ label_of table node
bound_of_label table node is_node =
    bound_of-at table node is_node.from_one ∙ get_or_default table (node - 1) NONE 0 (omega (arith, is_node.from_one, is_node.to_last))

-- if labels fall, the limit falls
pub limit-lower : (target : Option ℕ) (table table' : List ℕ) → ((v : ℕ) → bound_of table' v ≤ bound_of table v) → limit target (bound_of table') ≤ limit target (bound_of table)
limit-lower None table table' lower = omega arith
limit-lower (Some t) table table' lower = lower t

-- what is one arc from a node that is reached, is reached
pub reaches_step : (roads : Roads) (answers : ℕ → ℕ → ℕ → ℕ → Type 0) (sources : List Source) (node time number head arrival : ℕ) → Reaches roads answers sources node time → Step roads answers node time number head arrival → Reaches roads answers sources head arrival
reaches_step roads answers sources node time number head arrival reaches step =
    reaches_more roads answers sources node time number head arrival step.arc reaches step.is_arc step.is_tail step.is_head step.answer step.in_time

-- what is kept twice is kept
pub KeepsMet-then : (table table' table'' : List ℕ) (met met' met'' : ℕ → ℕ → ℕ → Type 0) → ((v : ℕ) → bound_of table' v ≤ bound_of table v) → ((v : ℕ) → bound_of table'' v ≤ bound_of table' v) → KeepsMet table met table' met' → KeepsMet table' met' table'' met'' → KeepsMet table met table'' met''
KeepsMet-then table table' table'' met met' met'' low low' one two v u k same_v same_u has =
    let one_v = low v in
    let two_v = low' v in
    let one_u = low u in
    let two_u = low' u in
    two v u k (omega arith) (omega arith) (one v u k (omega arith) (omega arith) has)

-- what was met stays met if labels fell elsewhere
pub IsMet-still : (roads : Roads) (table table' : List ℕ) (met met' : ℕ → ℕ → ℕ → Type 0) (u n v a : ℕ) → bound_of table' v ≤ bound_of table v → bound_of table' u ≡ bound_of table u → KeepsMet table met table' met' → IsMet roads table met u n v a → IsMet roads table' met' u n v a
IsMet-still roads table table' met met' u n v a low same_u still was = (
  omega (arith, was.0),
  λ same.
      let found = was.1 (omega (arith, was.0)) in
      (found.0, found.1, still v u found.0 (omega (arith, was.0)) same_u found.2),
)

-- only the number itself
pub Contains-one : (e x : ℕ) → Contains (x ∷ []) e → x ≡ e
Contains-one e x h = elim (Contains-cons_cases x e [] h) [ inl s ↦ s | inr c ↦ absurd (omega (arith, c.1)) ]

module _ (roads : Roads) (answers : ℕ → ℕ → ℕ → ℕ → Type 0) where
  -- an arc's step goes by that arc
  pub step-head : (u d e v b : ℕ) (arc : Arc) → IsArc roads e arc → Step roads answers u d e v b → arc.head ≡ v
  step-head u d e v b arc is step = sym (ap (λ (a : Arc). a.head) (one_arc roads e step.arc arc step.is_arc is)) ∙ step.is_head

  pub step-answer : (u d e v b : ℕ) (arc : Arc) → IsArc roads e arc → Step roads answers u d e v b → answers arc.class arc.weight d b
  step-answer u d e v b arc is step =
      let P : Arc → Type 0 = λ a. answers a.class a.weight d b in
      subst P (one_arc roads e step.arc arc step.is_arc is) step.answer

  -- the number of a step, replaced by an equal one
  pub step-number : (u d e e' v b : ℕ) → e ≡ e' → Step roads answers u d e' v b → Step roads answers u d e v b
  step-number u d e e' v b same step = let P : ℕ → Type 0 = λ x. Step roads answers u d x v b in subst P (sym same) step

  -- the head of the arc was offered its arrival
  pub Scanned-lowers : (e d b place : ℕ) (arc : Arc) (table : List ℕ) (waits : ℕ → Type 0) (met : ℕ → ℕ → ℕ → Type 0) (table' : List ℕ) (waits' : ℕ → Type 0) (met' : ℕ → ℕ → ℕ → Type 0) → IsArc roads e arc → IsPlaced roads arc.tail place e → answers arc.class arc.weight d b → b ≤ HORIZON → ((a : ℕ) → answers arc.class arc.weight d a → b ≤ a) → KeepsLess arc.head b table waits table' waits' → (bound_of table' arc.head ≡ b → met' arc.head arc.tail place) → KeepsMet table met table' met' → Scanned roads answers arc.tail d (e ∷ []) table waits met table' waits' met'
  Scanned-lowers e d b place arc table waits met table' waits' met' is placed answer in_time least lowers reached still = record {
    places = lowers.places;
    lower = lower;
    fallen = fallen;
    kept = lowers.kept;
    passed = passed;
    meets = λ same. meets;
    still = still;
  }
    where
      lower : (v : ℕ) → bound_of table' v ≤ bound_of table v
      lower v = elim (cases_eq v arc.head) [
        | inl here ↦ rw here (omega arith)
        | inr ne ↦ (let same = lowers.others v ne in omega arith)
      ]

      Fallen : ℕ → Type 0
      Fallen v = waits' v × ((n : ℕ) × Step roads answers arc.tail d n v (bound_of table' v))

      at_head : bound_of table' arc.head < bound_of table arc.head → waits' arc.head × ((n : ℕ) × Step roads answers arc.tail d n arc.head (bound_of table' arc.head))
      at_head falls =
          let at_b : bound_of table' arc.head ≡ b = omega arith in (
            lowers.opened (omega arith),
            (
              e,
              record {
                arc = arc;
                is_arc = is;
                is_tail = refl;
                is_head = refl;
                answer = rw at_b answer;
                in_time = omega arith;
              },
            ),
          )

      fallen : (v : ℕ) → bound_of table' v < bound_of table v → waits' v × ((n : ℕ) × Step roads answers arc.tail d n v (bound_of table' v))
      fallen v falls = elim (cases_eq v arc.head) [
        | inl here ↦ (
            let Falls : ℕ → Type 0 = λ x. bound_of table' x < bound_of table x in
            let Goal : ℕ → Type 0 = λ x. waits' x × ((n : ℕ) × Step roads answers arc.tail d n x (bound_of table' x)) in
            subst Goal (sym here) (at_head (subst Falls here falls)))
        | inr ne ↦ (let same = lowers.others v ne in absurd (omega arith))
      ]

      passed : (n v a : ℕ) → Contains (e ∷ []) n → Step roads answers arc.tail d n v a → bound_of table' v ≤ a
      passed n v a there step =
          let here = step-number arc.tail d e n v a (Contains-one n e there) step in
          let head : arc.head ≡ v = step-head arc.tail d e v a arc is here in
          let low : b ≤ a = least a (step-answer arc.tail d e v a arc is here) in
          rw (← head) (omega arith)

      at_arc : (a : ℕ) → b ≤ a → IsMet roads table' met' arc.tail e arc.head a
      at_arc a low = (omega (arith, lowers.least), λ same. (place, placed, reached (omega (arith, same, lowers.least))))

      meets : (n v a : ℕ) → Contains (e ∷ []) n → Step roads answers arc.tail d n v a → IsMet roads table' met' arc.tail n v a
      meets n v a there step =
          let one : e ≡ n = Contains-one n e there in
          let here = step-number arc.tail d e n v a one step in
          let head : arc.head ≡ v = step-head arc.tail d e v a arc is here in
          let low : b ≤ a = least a (step-answer arc.tail d e v a arc is here) in
          let P : ℕ → ℕ → Type 0 = λ x y. IsMet roads table' met' arc.tail x y a in
          subst (λ x. P x v) one (subst (P e) head (at_arc a low))

  -- no label can take an arrival past the horizon
  pub Scanned-late : (e d b : ℕ) (arc : Arc) (table : List ℕ) (waits : ℕ → Type 0) (met : ℕ → ℕ → ℕ → Type 0) → IsArc roads e arc → HORIZON < b → ((a : ℕ) → answers arc.class arc.weight d a → b ≤ a) → Scanned roads answers arc.tail d (e ∷ []) table waits met table waits met
  Scanned-late e d b arc table waits met is late least = record {
    places = refl;
    lower = λ v. omega arith;
    fallen = λ v falls. absurd (omega arith);
    kept = λ v there. there;
    passed = λ n v a there step. (passed n v a there step).0;
    meets = λ same. passed;
    still = λ v u k same_v same_u has. has;
  }
    where
      passed : (n v a : ℕ) → Contains (e ∷ []) n → Step roads answers arc.tail d n v a → IsMet roads table met arc.tail n v a
      passed n v a there step =
          let here = step-number arc.tail d e n v a (Contains-one n e there) step in
          let low : b ≤ a = least a (step-answer arc.tail d e v a arc is here) in
          let time : a ≤ HORIZON = step.in_time in
          absurd (omega arith)

  -- a label below the departure can take no arrival
  pub Scanned-settled : (e d : ℕ) (arc : Arc) (table : List ℕ) (waits : ℕ → Type 0) (met : ℕ → ℕ → ℕ → Type 0) → IsArc roads e arc → bound_of table arc.head < d → ((a : ℕ) → answers arc.class arc.weight d a → d ≤ a) → Scanned roads answers arc.tail d (e ∷ []) table waits met table waits met
  Scanned-settled e d arc table waits met is low after = record {
    places = refl;
    lower = λ v. omega arith;
    fallen = λ v falls. absurd (omega arith);
    kept = λ v there. there;
    passed = λ n v a there step. (passed n v a there step).0;
    meets = λ same. passed;
    still = λ v u k same_v same_u has. has;
  }
    where
      passed : (n v a : ℕ) → Contains (e ∷ []) n → Step roads answers arc.tail d n v a → IsMet roads table met arc.tail n v a
      passed n v a there step =
          let here = step-number arc.tail d e n v a (Contains-one n e there) step in
          let head : arc.head ≡ v = step-head arc.tail d e v a arc is here in
          let onward : d ≤ a = after a (step-answer arc.tail d e v a arc is here) in
          let P : ℕ → Type 0 = λ x. bound_of table x < a in
          let low : bound_of table v < a = subst P head (omega arith) in
          (omega arith, λ same. absurd (omega arith))

  -- one arc after others
  pub Scanned-more : (u d e : ℕ) (numbers table table' table'' : List ℕ) (waits waits' waits'' : ℕ → Type 0) (met met' met'' : ℕ → ℕ → ℕ → Type 0) → Scanned roads answers u d numbers table waits met table' waits' met' → Scanned roads answers u d (e ∷ []) table' waits' met' table'' waits'' met'' → Scanned roads answers u d (numbers ++ e ∷ []) table waits met table'' waits'' met''
  Scanned-more u d e numbers table table' table'' waits waits' waits'' met met' met'' first last = record {
    places = last.places ∙ first.places;
    lower = λ v. (let one = first.lower v in let two = last.lower v in omega arith);
    fallen = fallen;
    kept = λ v there. last.kept v (first.kept v there);
    passed = passed;
    meets = meets;
    still = KeepsMet-then table table' table'' met met' met'' first.lower last.lower first.still last.still;
  }
    where
      fallen : (v : ℕ) → bound_of table'' v < bound_of table v → waits'' v × ((n : ℕ) × Step roads answers u d n v (bound_of table'' v))
      fallen v falls = elim (cases_lt (bound_of table'' v) (bound_of table' v)) [
        | inl again ↦ last.fallen v again
        | inr keeps ↦ (
            let low = last.lower v in
            let same : bound_of table' v ≡ bound_of table'' v = omega arith in
            let before = first.fallen v (omega arith) in
            let P : ℕ → Type 0 = λ x. Step roads answers u d before.1.0 v x in
            (last.kept v before.0, (before.1.0, subst P same before.1.1)))
      ]

      passed : (n v a : ℕ) → Contains (numbers ++ e ∷ []) n → Step roads answers u d n v a → bound_of table'' v ≤ a
      passed n v a there step = elim (Contains-append_cases numbers (e ∷ []) n there) [
        | inl early ↦ (let low = last.lower v in let was = first.passed n v a early step in omega arith)
        | inr late ↦ last.passed n v a late step
      ]

      meets : bound_of table'' u ≡ bound_of table u → (n v a : ℕ) → Contains (numbers ++ e ∷ []) n → Step roads answers u d n v a → IsMet roads table'' met'' u n v a
      meets same n v a there step =
          let low = last.lower u in
          let was = first.lower u in
          elim (Contains-append_cases numbers (e ∷ []) n there) [
            | inl early ↦ IsMet-still roads table' table'' met' met'' u n v a (last.lower v) (omega arith) last.still (first.meets (omega arith) n v a early step)
            | inr late ↦ last.meets (omega arith) n v a late step
          ]

  pub Scanned-none : (u d : ℕ) (table : List ℕ) (waits : ℕ → Type 0) (met : ℕ → ℕ → ℕ → Type 0) → Scanned roads answers u d [] table waits met table waits met
  Scanned-none u d table waits met = record {
    places = refl;
    lower = λ v. omega arith;
    fallen = λ v falls. absurd (omega arith);
    kept = λ v there. there;
    passed = λ n v a there step. absurd (omega (arith, there.1));
    meets = λ same n v a there step. absurd (omega (arith, there.1));
    still = λ v u k same_v same_u has. has;
  }

  module _ (sources : List Source) where
    -- the node in front was scanned at its label
    pub AwaitsScansFrom-scanned : (target : Option ℕ) (u d : ℕ) (numbers table table' : List ℕ) (met met' : ℕ → ℕ → ℕ → Type 0) (before waits waits' : ℕ → Type 0) → AwaitsScansFrom roads answers sources target table met before → ((v : ℕ) → before v → (u ≡ v) ⊎ waits v) → d ≡ bound_of table u → d ≤ HORIZON → ((n : ℕ) (arc : Arc) → IsArc roads n arc → arc.tail ≡ u → Contains numbers n) → Scanned roads answers u d numbers table waits met table' waits' met' → AwaitsScansFrom roads answers sources target table' met' waits'
    AwaitsScansFrom-scanned target u d numbers table table' met met' before waits waits' under taken at_label in_time every scanned = record {
      places = scanned.places ∙ under.places;
      reached = reached;
      started = λ s given. (let low = scanned.lower s.node in let was = under.started s given in omega arith);
      settled = settled;
    }
      where
        from_u : Reaches roads answers sources u d
        from_u =
            let P : ℕ → Type 0 = λ x. Reaches roads answers sources u x in
            subst P (sym at_label) (under.reached u (omega arith))

        -- a label that didn't fall is what it was
        same_entry : (v : ℕ) → bound_of table v ≤ bound_of table' v → bound_of table v ≡ bound_of table' v
        same_entry v h = let low = scanned.lower v in omega arith

        reached : (v : ℕ) → bound_of table' v ≢ NONE → Reaches roads answers sources v (bound_of table' v)
        reached v there = elim (cases_lt (bound_of table' v) (bound_of table v)) [
          | inl falls ↦ (let by = scanned.fallen v falls in reaches_step roads answers sources u d by.1.0 v (bound_of table' v) from_u by.1.1)
          | inr h ↦ (
              let same = same_entry v h in
              let P : ℕ → Type 0 = λ x. Reaches roads answers sources v x in
              subst P same (under.reached v (omega arith)))
        ]

        -- the arcs from u were passed
        here : bound_of table' u ≡ bound_of table u → MeetsAll roads answers table' met' u d
        here as_was e w b step = scanned.meets as_was e w b (every e step.arc step.is_arc step.is_tail) step

        below : (v a : ℕ) → bound_of table' v ≡ bound_of table v → MeetsAll roads answers table met v a → MeetsAll roads answers table' met' v a
        below v a as_was old e w b step = IsMet-still roads table table' met met' v e w b (scanned.lower w) as_was scanned.still (old e w b step)

        settled : (v : ℕ) → bound_of table' v ≢ NONE → MeetsAll roads answers table' met' v (bound_of table' v) ⊎ (waits' v ⊎ (limit target (bound_of table') < bound_of table' v))
        settled v there = elim (cases_lt (bound_of table' v) (bound_of table v)) [
          | inl falls ↦ inr (inl (scanned.fallen v falls).0)
          | inr h ↦ (
              let same = same_entry v h in
              let P : ℕ → Type 0 = λ x. MeetsAll roads answers table' met' v x in
              elim (under.settled v (omega arith)) [
                | inl old ↦ inl (subst P same (below v (bound_of table v) (sym same) old))
                | inr (inl there) ↦ elim (taken v there) [
                  | inl is_u ↦ (
                      let Q : ℕ → Type 0 = λ x. MeetsAll roads answers table' met' x d in
                      let R : ℕ → Type 0 = λ x. bound_of table' x ≡ bound_of table x in
                      let at_v : d ≡ bound_of table' v = at_label ∙ ap (bound_of table) is_u ∙ same in
                      inl (subst P at_v (subst Q is_u (here (subst R (sym is_u) (sym same))))))
                  | inr other ↦ inr (inl (scanned.kept v other))
                ]
                | inr (inr above) ↦ inr (inr (let fell = limit-lower target table table' scanned.lower in omega arith))
              ])
        ]

    -- a node with no label needs no scan
    pub AwaitsScansFrom-unlabelled : (target : Option ℕ) (u : ℕ) (table : List ℕ) (met : ℕ → ℕ → ℕ → Type 0) (before waits : ℕ → Type 0) → AwaitsScansFrom roads answers sources target table met before → ((v : ℕ) → before v → (u ≡ v) ⊎ waits v) → HORIZON < bound_of table u → AwaitsScansFrom roads answers sources target table met waits
    AwaitsScansFrom-unlabelled target u table met before waits under taken late = record {
      places = under.places;
      reached = under.reached;
      started = under.started;
      settled = settled;
    }
      where
        settled : (v : ℕ) → bound_of table v ≢ NONE → MeetsAll roads answers table met v (bound_of table v) ⊎ (waits v ⊎ (limit target (bound_of table) < bound_of table v))
        settled v there = elim (under.settled v there) [
          | inl old ↦ inl old
          | inr (inl wait) ↦ elim (taken v wait) [
            | inl is_u ↦ (
                let time : bound_of table v ≤ HORIZON = (under.reached v there).within in
                let same : bound_of table u ≡ bound_of table v = ap (bound_of table) is_u in
                absurd (omega arith))
            | inr other ↦ inr (inl other)
          ]
          | inr (inr above) ↦ inr (inr above)
        ]

    -- a node whose label is above the limit needs no scan
    pub AwaitsScansFrom-above : (target : Option ℕ) (u : ℕ) (table : List ℕ) (met : ℕ → ℕ → ℕ → Type 0) (before waits : ℕ → Type 0) → AwaitsScansFrom roads answers sources target table met before → ((v : ℕ) → before v → (u ≡ v) ⊎ waits v) → limit target (bound_of table) < bound_of table u → AwaitsScansFrom roads answers sources target table met waits
    AwaitsScansFrom-above target u table met before waits under taken high = record {
      places = under.places;
      reached = under.reached;
      started = under.started;
      settled = settled;
    }
      where
        settled : (v : ℕ) → bound_of table v ≢ NONE → MeetsAll roads answers table met v (bound_of table v) ⊎ (waits v ⊎ (limit target (bound_of table) < bound_of table v))
        settled v there = elim (under.settled v there) [
          | inl old ↦ inl old
          | inr (inl wait) ↦ elim (taken v wait) [
            | inl is_u ↦ (let same : bound_of table u ≡ bound_of table v = ap (bound_of table) is_u in inr (inr (omega arith)))
            | inr other ↦ inr (inl other)
          ]
          | inr (inr above) ↦ inr (inr above)
        ]

    -- a further source was offered its departure
    pub AwaitsScansFrom-source : (target : Option ℕ) (s : Source) (table : List ℕ) (met : ℕ → ℕ → ℕ → Type 0) (waits : ℕ → Type 0) (table' : List ℕ) (met' : ℕ → ℕ → ℕ → Type 0) (waits' : ℕ → Type 0) → s.departure ≤ HORIZON → AwaitsScansFrom roads answers sources target table met waits → KeepsLess s.node s.departure table waits table' waits' → KeepsMet table met table' met' → AwaitsScansFrom roads answers (sources ++ s ∷ []) target table' met' waits'
    AwaitsScansFrom-source target s table met waits table' met' waits' in_time under lowers keeps = record {
      places = lowers.places ∙ under.places;
      reached = reached;
      started = started;
      settled = settled;
    }
      where
        lower : (v : ℕ) → bound_of table' v ≤ bound_of table v
        lower v = elim (cases_eq v s.node) [
          | inl here ↦ rw here (omega arith)
          | inr ne ↦ (let same = lowers.others v ne in omega arith)
        ]

        wider : (v a : ℕ) → Reaches roads answers sources v a → Reaches roads answers (sources ++ s ∷ []) v a
        wider v a reaches = record {
          source = reaches.source;
          among = among_left sources (s ∷ []) reaches.source reaches.among;
          walk = reaches.walk;
          arrives = reaches.arrives;
          within = reaches.within;
        }

        begins : Reaches roads answers (sources ++ s ∷ []) s.node s.departure
        begins = record {
          source = s;
          among = among_push sources s;
          walk = [];
          arrives = stays;
          within = in_time;
        }

        reached : (v : ℕ) → bound_of table' v ≢ NONE → Reaches roads answers (sources ++ s ∷ []) v (bound_of table' v)
        reached v there = elim (cases_lt (bound_of table' v) (bound_of table v)) [
          | inl falls ↦ elim (cases_eq v s.node) [
            | inl here ↦ (
                let P : ℕ → Type 0 = λ x. Reaches roads answers (sources ++ s ∷ []) x (bound_of table' x) in
                let Q : ℕ → Type 0 = λ x. Reaches roads answers (sources ++ s ∷ []) s.node x in
                let F : ℕ → Type 0 = λ x. bound_of table' x < bound_of table x in
                let falls_here : bound_of table' s.node < bound_of table s.node = subst F here falls in
                let is : s.departure ≡ bound_of table' s.node = omega (arith, lowers.least) in
                subst P (sym here) (subst Q is begins))
            | inr ne ↦ (let same = lowers.others v ne in absurd (omega arith))
          ]
          | inr h ↦ (
              let low = lower v in
              let same : bound_of table v ≡ bound_of table' v = omega arith in
              let P : ℕ → Type 0 = λ x. Reaches roads answers (sources ++ s ∷ []) v x in
              subst P same (wider v (bound_of table v) (under.reached v (omega arith))))
        ]

        started : (x : Source) → IsAmong (sources ++ s ∷ []) x → bound_of table' x.node ≤ x.departure
        started x given = elim (among_push_cases sources s x given) [
          | inl old ↦ (let low = lower x.node in let was = under.started x old in omega arith)
          | inr new ↦ (
              let P : Source → Type 0 = λ y. bound_of table' y.node ≤ y.departure in
              let least = lowers.least in
              let low : bound_of table' s.node ≤ s.departure = omega arith in
              subst P new low)
        ]

        settled : (v : ℕ) → bound_of table' v ≢ NONE → MeetsAll roads answers table' met' v (bound_of table' v) ⊎ (waits' v ⊎ (limit target (bound_of table') < bound_of table' v))
        settled v there = elim (cases_lt (bound_of table' v) (bound_of table v)) [
          | inl falls ↦ elim (cases_eq v s.node) [
            | inl here ↦ (
                let F : ℕ → Type 0 = λ x. bound_of table' x < bound_of table x in
                let P : ℕ → Type 0 = λ x. waits' x in
                let falls_here : bound_of table' s.node < bound_of table s.node = subst F here falls in
                let least = lowers.least in
                inr (inl (subst P (sym here) (lowers.opened (omega arith)))))
            | inr ne ↦ (let same = lowers.others v ne in absurd (omega arith))
          ]
          | inr h ↦ (
              let low = lower v in
              let same : bound_of table v ≡ bound_of table' v = omega arith in
              elim (under.settled v (omega arith)) [
                | inl old ↦ (
                    let P : ℕ → Type 0 = λ x. MeetsAll roads answers table' met' v x in
                    let still : MeetsAll roads answers table' met' v (bound_of table v) = λ e w b step. IsMet-still roads table table' met met' v e w b (lower w) (sym same) keeps (old e w b step) in
                    inl (subst P same still))
                | inr (inl wait) ↦ inr (inl (lowers.kept v wait))
                | inr (inr above) ↦ inr (inr (let fell = limit-lower target table table' lower in omega arith))
              ])
        ]

-- no node has a label at first
pub bound_of-none : (n v : ℕ) → bound_of (replicate n NONE) v ≡ NONE
unfolding bound_of
bound_of-none n zero = refl
bound_of-none n (suc k) = elim (cases_lt k n) [
  | inl l ↦ get_or-replicate n k NONE NONE l
  | inr l ↦ get_or_past (replicate n NONE) k NONE (rw length-replicate l)
]

pub AwaitsScansFrom-none : (roads : Roads) (answers : ℕ → ℕ → ℕ → ℕ → Type 0) (target : Option ℕ) (met : ℕ → ℕ → ℕ → Type 0) (waits : ℕ → Type 0) → AwaitsScansFrom roads answers [] target (replicate roads.nodes NONE) met waits
AwaitsScansFrom-none roads answers target met waits = record {
  places = length-replicate roads.nodes NONE;
  reached = λ v there. (let e = bound_of-none roads.nodes v in absurd (omega arith));
  started = λ s given. absurd (omega (arith, given.1.0));
  settled = λ v there. (let e = bound_of-none roads.nodes v in absurd (omega arith));
}

-- the waiting nodes may be given by an equivalent predicate
pub AwaitsScansFrom-moved : (roads : Roads) (answers : ℕ → ℕ → ℕ → ℕ → Type 0) (sources : List Source) (target : Option ℕ) (table : List ℕ) (met : ℕ → ℕ → ℕ → Type 0) (before waits : ℕ → Type 0) → AwaitsScansFrom roads answers sources target table met before → ((v : ℕ) → before v → waits v) → AwaitsScansFrom roads answers sources target table met waits
AwaitsScansFrom-moved roads answers sources target table met before waits under moved = record {
  places = under.places;
  reached = under.reached;
  started = under.started;
  settled = λ v there. elim (under.settled v there) [
    | inl old ↦ inl old
    | inr (inl wait) ↦ inr (inl (moved v wait))
    | inr (inr above) ↦ inr (inr above)
  ];
}
