-- Walks over one list of arcs, left at several departures.
use Rattle.std.proofs.Common.{◌≡◌, ◌∙◌, refl, ℕ, ◌<◌, ◌≤◌, List, [], ◌∷◌, ◌++◌, length, get_or, inl, inr, ◌⊎◌, arith, ap, sym, subst, length-append}
use Rattle.std.proofs.lemmas.List.{get_or_default}
use Rattle.std.specs.List.{IsAmong}
use Rattle.ea_base.specs.declared.limits.TheConstants.{HORIZON}
use Rattle.ea_road.specs.declared.arc.Arc.{Arc}
use Rattle.ea_road.specs.declared.source.Source.{Source}
use Rattle.ea_travel_times.specs.Answers.{IsFifo}
use Rattle.ea_road.specs.Arrivals.{Arrives, stays, goes, Attains}
use Rattle.ea_road.specs.Roads.{Roads, IsArc, IsNetwork, top_class}
use Rattle.ea_road.proofs.Arcs.{is_question}
use Rattle.ea_road.proofs.WalkLaws.{one_end}
use Rattle.ea_check.specs.Starts.{AreOrdered, Precedes}

module _
    (roads : Roads)
    (answers : ℕ → ℕ → ℕ → ℕ → Type 0)
  where
    -- the node at which a walk begins
    pub record Begins (from : ℕ) (walk : List ℕ) : Type 0 where
      pub arc : Arc
      pub is_arc : IsArc roads (get_or walk 0 0) arc
      pub tail : arc.tail ≡ from

    no_arcs : (front : List ℕ) (number : ℕ) → front ++ number ∷ [] ≡ [] → ⊥
    no_arcs front number same = omega (arith, ap (λ (w : List ℕ). length w) same, length-append front (number ∷ []))

    pub stays_there : {from departure node time : ℕ} {walk : List ℕ} → walk ≡ [] → Arrives roads answers from departure walk node time → from ≡ node
    stays_there none stays = refl
    stays_there none (goes {walk} {number} before within is_arc tail answer) = absurd (no_arcs walk number none)

    pub begins_at : {from departure node time : ℕ} {walk : List ℕ} → 0 < length walk → Arrives roads answers from departure walk node time → Begins from walk
    begins_at some stays = absurd (omega arith)
    begins_at {from} {departure} some (goes {walk} {node} {time} {number} {arc} before within is_arc tail answer) =
        by_front (λ here. begins_at here before) walk refl
      where
        by_front : (0 < length walk → Begins from walk) → (front : List ℕ) → front ≡ walk → Begins from (walk ++ number ∷ [])
        by_front at_front [] same =
            let here = stays_there (sym same) before in
            let P : List ℕ → Type 0 = λ w. Begins from (w ++ number ∷ []) in
            subst P same (record { arc = arc; is_arc = is_arc; tail = tail ∙ sym here })
        by_front at_front (first ∷ front) same =
            let P : List ℕ → Type 0 = λ w. 0 < length w in
            let begins = at_front (subst P same (omega arith)) in
            let Q : List ℕ → Type 0 = λ w. Begins from w → Begins from (w ++ number ∷ []) in
            subst Q same (λ at. record { arc = at.arc; is_arc = at.is_arc; tail = at.tail }) begins

    module _
        (classes : ℕ)
        (network : IsNetwork roads)
        (classed : top_class roads.arcs ≤ classes)
        (fifo : IsFifo answers classes)
      where
        -- left earlier, a walk arrives no later
        pub record Sooner (from departure : ℕ) (walk : List ℕ) (node bound : ℕ) : Type 0 where
          pub time : ℕ
          pub arrives : Arrives roads answers from departure walk node time
          pub no_later : time ≤ bound

        pub sooner : {from departure node time : ℕ} {walk : List ℕ} (early : ℕ) → early ≤ departure → time ≤ HORIZON → Arrives roads answers from departure walk node time → Sooner from early walk node time
        sooner early before within stays = record { time = early; arrives = stays; no_later = before }
        sooner {from} early before within (goes {walk} {node} {time} {number} {arrival} {arc} front inside is_arc tail answer) =
            let first = sooner early before inside front in
            let asked = is_question roads classes number first.time arc network classed is_arc (omega (arith, first.no_later)) in
            let later = is_question roads classes number time arc network classed is_arc inside in
            let best = fifo.has_answer arc.class arc.weight first.time asked in
            let order = fifo.in_order arc.class arc.weight first.time time best.0 arrival asked later best.1 answer first.no_later in
            record {
              time = best.0;
              arrives = goes first.arrives (omega (arith, first.no_later)) is_arc tail best.1;
              no_later = order;
            }

        -- a walk that arrives too early, or elsewhere, does so from each earlier departure
        pub too_early : {walk : List ℕ} (source other : Source) (start end arrival node time : ℕ) → source.node ≡ start → other.node ≡ start → other.departure ≤ source.departure → Arrives roads answers source.node source.departure walk end arrival → arrival ≤ HORIZON → arrival < time → Arrives roads answers other.node other.departure walk node time → ⊥
        too_early {walk} source other start end arrival node time here there before arrives within early also =
            let moved = subst (λ n. Arrives roads answers n source.departure walk end arrival) (here ∙ sym there) arrives in
            let first = sooner other.departure before within moved in
            let ends = one_end roads answers classes other.node other.departure network classed fifo node time first.arrives also in
            omega (arith, ends.1, first.no_later)

        -- a walk that arrives late or elsewhere does so from each later departure
        pub too_late : {walk : List ℕ} (source other : Source) (start end arrival node time : ℕ) → source.node ≡ start → other.node ≡ start → source.departure ≤ other.departure → Arrives roads answers source.node source.departure walk end arrival → time ≤ HORIZON → time ≤ arrival → (end ≡ node → arrival ≡ time → ⊥) → Arrives roads answers other.node other.departure walk node time → ⊥
        too_late {walk} source other start end arrival node time here there before arrives within late apart also =
            let moved = subst (λ n. Arrives roads answers n other.departure walk node time) (there ∙ sym here) also in
            let first = sooner source.departure before within moved in
            let ends = one_end roads answers classes source.node source.departure network classed fifo node first.time arrives first.arrives in
            apart ends.0 (omega (arith, ends.1, first.no_later))

        -- a walk that does not arrive within the horizon does not from a later departure
        pub never_later : {walk : List ℕ} (source other : Source) (start node time : ℕ) → source.node ≡ start → other.node ≡ start → source.departure ≤ other.departure → ((end arrival : ℕ) → Arrives roads answers source.node source.departure walk end arrival → HORIZON < arrival) → time ≤ HORIZON → Arrives roads answers other.node other.departure walk node time → ⊥
        never_later {walk} source other start node time here there before none within also =
            let moved = subst (λ n. Arrives roads answers n other.departure walk node time) (there ∙ sym here) also in
            let first = sooner source.departure before within moved in
            let beyond = none node first.time first.arrives in
            omega (arith, first.no_later)

-- a source before one at the node departs no later, if it is at the node
pub no_later_than : (source other : Source) (start : ℕ) → Precedes other source → source.node ≡ start → other.node ≡ start → other.departure ≤ source.departure
no_later_than source other start (inl less) here there = absurd (omega arith)
no_later_than source other start (inr same) here there = same.1

pub node_below : (source other : Source) (start : ℕ) → Precedes other source → source.node < start → other.node ≡ start → ⊥
node_below source other start (inl less) low there = omega arith
node_below source other start (inr same) low there = omega (arith, same.0)

pub node_above : (source other : Source) (start : ℕ) → Precedes source other → start < source.node → other.node ≡ start → ⊥
node_above source other start (inl less) high there = omega arith
node_above source other start (inr same) high there = omega (arith, same.0)

-- no source attains a time if none of the ordered ones does
pub attains_nowhere : (roads : Roads) (answers : ℕ → ℕ → ℕ → ℕ → Type 0) (sources ordered : List Source) (arcs : List ℕ) (node time : ℕ) → AreOrdered sources ordered → ((place : ℕ) (source : Source) → place < length ordered → Arrives roads answers (get_or ordered place source).node (get_or ordered place source).departure arcs node time → ⊥) → Attains roads answers sources arcs node time → ⊥
attains_nowhere roads answers sources ordered arcs node time are none attains =
    let at = are.there attains.source attains.among in
    none at.0 attains.source at.1.0 (subst (λ (s : Source). Arrives roads answers s.node s.departure arcs node time) at.1.1 attains.arrives)

-- if there is no first arc, no source attains a time
pub no_first_arc : (roads : Roads) (answers : ℕ → ℕ → ℕ → ℕ → Type 0) (sources : List Source) (arcs : List ℕ) (node time : ℕ) → 0 < length arcs → ((arc : Arc) → IsArc roads (get_or arcs 0 0) arc → ⊥) → Attains roads answers sources arcs node time → ⊥
no_first_arc roads answers sources arcs node time some none attains =
    let begins = begins_at roads answers some attains.arrives in
    none begins.arc begins.is_arc

-- the node at which a walk to the node begins
pub begins_there : (roads : Roads) (answers : ℕ → ℕ → ℕ → ℕ → Type 0) (arcs : List ℕ) (start node time : ℕ) → ((arcs ≡ []) × (start ≡ node)) ⊎ ((0 < length arcs) × ((arc : Arc) → IsArc roads (get_or arcs 0 0) arc → arc.tail ≡ start)) → (from departure : ℕ) → Arrives roads answers from departure arcs node time → from ≡ start
begins_there roads answers arcs start node time (inl none) from departure arrives = stays_there roads answers none.0 arrives ∙ sym none.1
begins_there roads answers arcs start node time (inr some) from departure arrives =
    let begins = begins_at roads answers some.0 arrives in
    sym begins.tail ∙ some.1 begins.arc begins.is_arc

-- the place of a source that is known by another name
pub among_at : (sources ordered : List Source) (place : ℕ) (default : Source) → AreOrdered sources ordered → place < length ordered → IsAmong sources (get_or ordered place default)
among_at sources ordered place default are inside =
    are.back (get_or ordered place default) (place, (inside, get_or_default ordered place default (get_or ordered place default) inside))

-- sources at places up to the middle, and from the middle on
pub before_middle : (sources ordered : List Source) (place middle : ℕ) (default : Source) → AreOrdered sources ordered → place ≤ middle → middle < length ordered → Precedes (get_or ordered place default) (get_or ordered middle default)
before_middle sources ordered place middle default are low inside = are.in_order place middle default low inside
