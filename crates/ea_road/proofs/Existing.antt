-- Each node has a least arrival, a time or none: labels fall until nothing improves them.
use Rattle.std.proofs.Common.{◌≡◌, ◌∙◌, refl, ℕ, zero, suc, ◌+◌, ◌-◌, ◌<◌, ◌≤◌, inl, inr, true, false, List, length, get_or, arith, ap, subst, sym, eq-eqb}
use Rattle.std.proofs.lemmas.Bool.Decides.{eqb_tells, leb_tells}
use Rattle.std.proofs.lemmas.List.{get_or_read, get_or_default}
use Rattle.std.proofs.lemmas.Option.{get_or_from_slice_get}
use Rattle.std.specs.List.{IsAmong}
use Rattle.std.specs.Prelude.{◌==◌, ◌≢◌, if◌then◌else◌, Option, None}
use Rattle.ea_base.specs.declared.limits.TheConstants.{HORIZON}
use Rattle.ea_travel_times.specs.Answers.{IsFifo}
use Rattle.ea_road.specs.declared.TheConstants.{NONE}
use Rattle.ea_road.specs.declared.arc.Arc.{Arc}
use Rattle.ea_road.specs.declared.source.Source.{Source}
use Rattle.ea_road.specs.Arrivals.{IsLeast, Reaches}
use Rattle.ea_road.specs.Labels.{IsFixed, time_of}
use Rattle.ea_road.specs.Queries.{Asking}
use Rattle.ea_road.specs.Roads.{IsNetwork, IsNode, Roads, top_class}
use Rattle.ea_road.proofs.Arcs.{arc_at, arc_inside, fits_at, is_question}
use Rattle.ea_road.proofs.Decide.{Decided, decide_below, decide_both, decide_le}
use Rattle.ea_road.proofs.Fixed.{labels_are_least}
use Rattle.ea_road.proofs.Reached.{reaches_more, reaches_node, reaches_source}
use Rattle.ea_road.proofs.Same.{one_answer}

-- ---- a label falls, and with it the sum of all

total : (ℕ → ℕ) → ℕ → ℕ
total label zero = 0
total label (suc count) = total label count + label (suc count)

abbrev lowered : (ℕ → ℕ) → ℕ → ℕ → ℕ → ℕ
lowered label node time other = if other == node then time else label other

at_node : (label : ℕ → ℕ) (node time other : ℕ) → other ≡ node → lowered label node time other ≡ time
at_node label node time other same = let here : (other == node) ≡ true = eq-eqb other node same in rw here refl

elsewhere : (label : ℕ → ℕ) (node time other : ℕ) → other ≢ node → lowered label node time other ≡ label other
elsewhere label node time other differs = elim (eqb_tells other node) [
  | inl same ↦ absurd (differs same.1)
  | inr not ↦ let there : (other == node) ≡ false = not.0 in rw there refl
]

total_before : (label : ℕ → ℕ) (node time count : ℕ) → count < node → total (lowered label node time) count ≡ total label count
unfolding total
total_before label node time zero before = refl
total_before label node time (suc count) before =
    let rest = total_before label node time count (omega (arith, before)) in
    let here = elsewhere label node time (suc count) (λ same. omega (arith, same, before)) in
    omega (arith, rest, here)

total_falls : (label : ℕ → ℕ) (node time count : ℕ) → 0 < node → node ≤ count → time < label node → total (lowered label node time) count < total label count
unfolding total
total_falls label node time zero some inside less = absurd (omega (arith, some, inside))
total_falls label node time (suc count) some inside less = elim (leb_tells node count) [
  | inl low ↦
      let rest = total_falls label node time count some low.1 less in
      let here = elsewhere label node time (suc count) (λ same. omega (arith, same, low.1)) in
      omega (arith, rest, here)
  | inr last ↦
      let same : suc count ≡ node = omega (arith, last.1, inside) in
      let rest = total_before label node time count (omega (arith, last.1)) in
      let here = at_node label node time (suc count) same in
      let value : label (suc count) ≡ label node = ap label same in
      omega (arith, rest, here, value, less)
]

no_source : Source
no_source = record { node = 0; departure = 0 }

no_arc : Arc
no_arc = record { tail = 0; head = 0; weight = 0; class = 0 }

module _
    (roads : Roads)
    (answers : ℕ → ℕ → ℕ → ℕ → Type 0)
    (classes : ℕ)
    (sources : List Source)
    (network : IsNetwork roads)
    (classed : top_class roads.arcs ≤ classes)
    (fifo : IsFifo answers classes)
    (starts : (source : Source) → IsAmong sources source → IsNode roads.nodes source.node)
    (departs : (source : Source) → IsAmong sources source → source.departure ≤ HORIZON)
  where
    -- each label is reached
    abbrev AreReached : (ℕ → ℕ) → Type 0
    AreReached label = (node : ℕ) → IsNode roads.nodes node → label node ≢ NONE → Reaches roads answers sources node (label node)

    -- the source at a place, or the arc at a place, improves a label
    abbrev StartsBefore : (ℕ → ℕ) → ℕ → Type 0
    StartsBefore label place = (place + 1 ≤ length sources) × ((get_or sources place no_source).departure + 1 ≤ label (get_or sources place no_source).node)

    record Improves (label : ℕ → ℕ) (place : ℕ) : Type 0 where
      inside : place < length roads.arcs
      time : ℕ
      left : label (get_or roads.arcs place no_arc).tail ≤ HORIZON
      answer : answers (get_or roads.arcs place no_arc).class (get_or roads.arcs place no_arc).weight (label (get_or roads.arcs place no_arc).tail) time
      within : time ≤ HORIZON
      less : time < label (get_or roads.arcs place no_arc).head

    decide_starts : (label : ℕ → ℕ) (place : ℕ) → Decided (StartsBefore label place)
    decide_starts label place = decide_both _ _ (decide_le _ _) (λ inside. decide_le _ _)

    decide_improves : (label : ℕ → ℕ) (place : ℕ) → Decided (Improves label place)
    decide_improves label place = by_place (decide_le (place + 1) (length roads.arcs))
      where
        arc : Arc
        arc = get_or roads.arcs place no_arc

        by_place : Decided (place + 1 ≤ length roads.arcs) → Decided (Improves label place)
        by_place (inr outside) = inr (λ it. let inside = it.inside in outside (omega (arith, inside)))
        by_place (inl room) = by_tail (decide_le (label (get_or roads.arcs place no_arc).tail) HORIZON)
          where
            inside : place < length roads.arcs
            inside = omega (arith, room)

            by_tail : Decided (label (get_or roads.arcs place no_arc).tail ≤ HORIZON) → Decided (Improves label place)
            by_tail (inr late) = inr (λ it. late it.left)
            by_tail (inl left) =
                let question = is_question roads classes (place + 1) (label (get_or roads.arcs place no_arc).tail) (get_or roads.arcs place no_arc) network classed (arc_at roads place no_arc inside) left in
                let best = fifo.has_answer (get_or roads.arcs place no_arc).class (get_or roads.arcs place no_arc).weight (label (get_or roads.arcs place no_arc).tail) question in
                elim (decide_both (best.0 ≤ HORIZON) (best.0 + 1 ≤ label (get_or roads.arcs place no_arc).head) (decide_le _ _) (λ _. decide_le _ _)) [
                  | inl both ↦ inl (record { inside = inside; time = best.0; left = left; answer = best.1; within = both.0; less = omega (arith, both.1) })
                  | inr not ↦ inr (λ it.
                      let same = one_answer answers classes fifo (get_or roads.arcs place no_arc).class (get_or roads.arcs place no_arc).weight (label (get_or roads.arcs place no_arc).tail) best.0 it.time question best.1 it.answer in
                      let within = it.within in
                      let less = it.less in
                      not (omega (arith, same, within), omega (arith, same, less)))
                ]

    reached_more : (label : ℕ → ℕ) (node time : ℕ) → AreReached label → Reaches roads answers sources node time → AreReached (lowered label node time)
    reached_more label node time reached reaches other is_node some = elim (eqb_tells other node) [
      | inl same ↦
          let value = at_node label node time other same.1 in
          subst (λ t. Reaches roads answers sources other t) (sym value) (subst (λ n. Reaches roads answers sources n time) (sym same.1) reaches)
      | inr not ↦
          let value = elsewhere label node time other not.1 in
          subst (λ t. Reaches roads answers sources other t) (sym value) (reached other is_node (λ none. some (value ∙ none)))
    ]

    abbrev asked : Asking
    asked = record { sources = sources; target = None }

    fixed_of : (label : ℕ → ℕ) → AreReached label → (((place : ℕ) × (place < length sources) × StartsBefore label place) → ⊥) → (((place : ℕ) × (place < length roads.arcs) × Improves label place) → ⊥) → IsFixed roads answers asked label
    fixed_of label reached no_start no_arc_improves = record {
      at_sources = λ source among.
          let read : get_or sources among.0 no_source ≡ source = sym (get_or_read sources among.0 source among.1.0 among.1.1 no_source) in
          elim (leb_tells (label source.node) source.departure) [
            | inl low ↦ low.1
            | inr high ↦
                let moved : (get_or sources among.0 no_source).departure + 1 ≤ label (get_or sources among.0 no_source).node = subst (λ (s : Source). s.departure + 1 ≤ label s.node) (sym read) (omega (arith, high.1)) in
                absurd (no_start (among.0, among.1.0, (omega (arith, among.1.0), moved)))
          ];
      reached = reached;
      satisfied = λ node is_node some low number arc arrival is_arc tail answer within.
          elim (leb_tells (label arc.head) arrival) [
            | inl kept ↦ kept.1
            | inr improved ↦
                let inside : number - 1 < length roads.arcs = arc_inside roads.arcs (number - 1) arc is_arc.found in
                let found : get_or roads.arcs (number - 1) no_arc ≡ arc = get_or_from_slice_get roads.arcs (number - 1) arc no_arc is_arc.found in
                let left : label arc.tail ≤ HORIZON = (let reaches = reached node is_node some in let low_enough = reaches.within in let same = ap label tail in omega (arith, low_enough, same)) in
                let at : answers arc.class arc.weight (label arc.tail) arrival = subst (λ n. answers arc.class arc.weight (label n) arrival) (sym tail) answer in
                let less : arrival < label arc.head = improved.1 in
                absurd (no_arc_improves (
                  number - 1,
                  inside,
                  record {
                    inside = inside;
                    time = arrival;
                    left = subst (λ (a : Arc). label a.tail ≤ HORIZON) (sym found) left;
                    answer = subst (λ (a : Arc). answers a.class a.weight (label a.tail) arrival) (sym found) at;
                    within = within;
                    less = subst (λ (a : Arc). arrival < label a.head) (sym found) less;
                  },
                ))
          ];
    }

    settled : (fuel : ℕ) (label : ℕ → ℕ) → total label roads.nodes ≤ fuel → AreReached label → (found : ℕ → ℕ) × IsFixed roads answers asked found
    settled zero label bound reached = by_start (decide_below (StartsBefore label) (decide_starts label) (length sources)) (decide_below (Improves label) (decide_improves label) (length roads.arcs))
      where
        by_start : Decided ((place : ℕ) × (place < length sources) × StartsBefore label place) → Decided ((place : ℕ) × (place < length roads.arcs) × Improves label place) → (found : ℕ → ℕ) × IsFixed roads answers asked found
        by_start (inl found) _ =
            let source = get_or sources found.0 no_source in
            let among : IsAmong sources (get_or sources found.0 no_source) = (found.0, (found.1, get_or_default sources found.0 no_source (get_or sources found.0 no_source) found.1)) in
            let node = starts (get_or sources found.0 no_source) among in
            let falls = total_falls label (get_or sources found.0 no_source).node (get_or sources found.0 no_source).departure roads.nodes node.from_one node.to_last (omega (arith, found.2.1)) in
            absurd (omega (arith, falls, bound))
        by_start (inr _) (inl found) =
            let head = (fits_at roads found.0 no_arc network found.1).head in
            let falls = total_falls label (get_or roads.arcs found.0 no_arc).head found.2.time roads.nodes head.from_one head.to_last found.2.less in
            absurd (omega (arith, falls, bound))
        by_start (inr no_start) (inr no_improvement) = (label, fixed_of label reached no_start no_improvement)
    settled (suc fuel) label bound reached = by_start (λ next low reached. settled fuel next low reached) (decide_below (StartsBefore label) (decide_starts label) (length sources)) (decide_below (Improves label) (decide_improves label) (length roads.arcs))
      where
        by_start : ((next : ℕ → ℕ) → total next roads.nodes ≤ fuel → AreReached next → (found : ℕ → ℕ) × IsFixed roads answers asked found) → Decided ((place : ℕ) × (place < length sources) × StartsBefore label place)
            → Decided ((place : ℕ) × (place < length roads.arcs) × Improves label place) → (found : ℕ → ℕ) × IsFixed roads answers asked found
        by_start go_on (inl found) _ =
            let source = get_or sources found.0 no_source in
            let among : IsAmong sources (get_or sources found.0 no_source) = (found.0, (found.1, get_or_default sources found.0 no_source (get_or sources found.0 no_source) found.1)) in
            let node = starts (get_or sources found.0 no_source) among in
            let falls = total_falls label (get_or sources found.0 no_source).node (get_or sources found.0 no_source).departure roads.nodes node.from_one node.to_last (omega (arith, found.2.1)) in
            let reaches = reaches_source roads answers sources (get_or sources found.0 no_source) among (departs (get_or sources found.0 no_source) among) in
            go_on (lowered label (get_or sources found.0 no_source).node (get_or sources found.0 no_source).departure) (omega (arith, falls, bound)) (reached_more label (get_or sources found.0 no_source).node (get_or sources found.0 no_source).departure reached reaches)
        by_start go_on (inr _) (inl found) =
            let fits = fits_at roads found.0 no_arc network found.1 in
            let head = fits.head in
            let it = found.2 in
            let falls = total_falls label (get_or roads.arcs found.0 no_arc).head it.time roads.nodes head.from_one head.to_last it.less in
            let left = it.left in
            let before = reached (get_or roads.arcs found.0 no_arc).tail fits.tail (λ none. omega (arith, none, left)) in
            let reaches = reaches_more roads answers sources (get_or roads.arcs found.0 no_arc).tail (label (get_or roads.arcs found.0 no_arc).tail) (found.0 + 1) (get_or roads.arcs found.0 no_arc).head it.time (get_or roads.arcs found.0 no_arc) before (arc_at roads found.0 no_arc found.1) refl refl it.answer it.within in
            go_on (lowered label (get_or roads.arcs found.0 no_arc).head it.time) (omega (arith, falls, bound)) (reached_more label (get_or roads.arcs found.0 no_arc).head it.time reached reaches)
        by_start go_on (inr no_start) (inr no_improvement) = (label, fixed_of label reached no_start no_improvement)

    -- each node has a least arrival, a time or none
    pub has_least : (node : ℕ) → (arrival : Option ℕ) × IsLeast roads answers sources node arrival
    has_least node = by_node (decide_both (1 ≤ node) (node ≤ roads.nodes) (decide_le _ _) (λ _. decide_le _ _))
      where
        found : (label : ℕ → ℕ) × IsFixed roads answers asked label
        found = settled (total (λ _. NONE) roads.nodes) (λ _. NONE) (omega arith) (λ node is_node some. absurd (some refl))

        by_node : Decided ((1 ≤ node) × (node ≤ roads.nodes)) → (arrival : Option ℕ) × IsLeast roads answers sources node arrival
        by_node (inl inside) =
            let is_node : IsNode roads.nodes node = record { from_one = omega (arith, inside.0); to_last = inside.1 } in
            (time_of (found.0 node), labels_are_least roads answers classes asked found.0 network classed fifo found.1 node is_node (below found.0 found.1 is_node))
          where
            below : (label : ℕ → ℕ) → IsFixed roads answers asked label → IsNode roads.nodes node → label node ≤ NONE
            below label fixed is_node = elim (eqb_tells (label node) NONE) [
              | inl same ↦ omega (arith, same.1)
              | inr differs ↦ let reaches = fixed.reached node is_node differs.1 in let within = reaches.within in omega (arith, within)
            ]
        by_node (inr outside) = (None, λ other reaches. let is = reaches_node roads answers network sources node other starts reaches in outside (omega (arith, is.from_one), is.to_last))
