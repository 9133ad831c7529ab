-- When no node is open, the target's label is its least arrival.
use Rattle.std.proofs.Common.{◌≡◌, ℕ, ◌+◌, ◌<◌, ◌≤◌, inl, inr, refl, ap, sym, subst, ◌∙◌, arith, List, Bool, true, false, eq-eqb, eqb-true}
use Rattle.std.specs.Prelude.{◌==◌, if◌then◌else◌, Some, None}
use Rattle.std.proofs.lemmas.Bool.{false≢true}
use Rattle.std.proofs.lemmas.Bool.Decides.{leb_tells}
use Rattle.ea_base.specs.declared.limits.TheConstants.{HORIZON}
use Rattle.ea_road.specs.declared.TheConstants.{NONE}
use Rattle.ea_road.specs.declared.source.Source.{Source}
use Rattle.ea_road.specs.Arrivals.{Arrives, stays, goes, IsLeast, Reaches}
use Rattle.ea_road.specs.Labels.{Satisfies, time_of}
use Rattle.ea_road.specs.Roads.{IsNetwork, IsNode, Roads, top_class}
use Rattle.ea_road.proofs.Arcs.{is_question}
use Rattle.ea_travel_times.specs.Answers.{IsFifo}
use Rattle.ea_hierarchy.specs.declared.numbers.TheConstants.{NONE as NO_WALK}
use Rattle.ea_goal.specs.Led.{AreConsistent, IsLed}

module _
    (roads : Roads)
    (answers : ℕ → ℕ → ℕ → ℕ → Type 0)
    (classes : ℕ)
    (sources : List Source)
    (target : ℕ)
    (bound label : ℕ → ℕ)
    (open_at : ℕ → ℕ → Type 0)
    (network : IsNetwork roads)
    (classed : top_class roads.arcs ≤ classes)
    (fifo : IsFifo answers classes)
    (is_target : IsNode roads.nodes target)
    (consistent : AreConsistent roads answers target bound)
    (led : IsLed roads answers sources target bound label open_at)
    (none_open : (time node : ℕ) → open_at time node → ⊥)
  where
    -- a node that isn't beyond the target is satisfied
    satisfied : (node : ℕ) → IsNode roads.nodes node → label node ≤ HORIZON → bound node < NO_WALK → label node + bound node ≤ label target → Satisfies roads answers label node (label node)
    satisfied node is_node within some near = elim (led.settled node is_node (λ same. omega (arith, same, within)) some) [
      | inl is ↦ is
      | inr (inl beyond) ↦ absurd (omega (arith, beyond, near))
      | inr (inr waits) ↦ absurd (none_open (label node) node waits)
    ]

    -- a label is at most each time from which the target could be reached by its label
    pub label_le : {start departure node time : ℕ} {walk : List ℕ} → label start ≤ departure → Arrives roads answers start departure walk node time → time ≤ HORIZON → bound node < NO_WALK → time + bound node ≤ label target → label node ≤ time
    label_le first stays within some near = first
    label_le first (goes {node} {time} {number} {arrival} {arc} before in_time is_arc tail answer) within some near =
        let along = consistent.along number time arrival arc is_arc in_time within answer some in
        let at : bound arc.tail ≡ bound node = ap bound tail in
        let low = label_le first before in_time (omega (arith, along.0, at)) (omega (arith, along.1, at, near)) in
        let is_node = subst (λ n. IsNode roads.nodes n) tail (network.each_fits number arc is_arc).tail in
        let sooner : label node ≤ HORIZON = omega (arith, low, in_time) in
        let step = satisfied node is_node sooner (omega (arith, along.0, at)) (omega (arith, low, along.1, at, near)) in
        let asked = is_question roads classes number (label node) arc network classed is_arc sooner in
        let later = is_question roads classes number time arc network classed is_arc in_time in
        let best = fifo.has_answer arc.class arc.weight (label node) asked in
        let order = fifo.in_order arc.class arc.weight (label node) time best.0 arrival asked later best.1 answer low in
        let is = step number arc best.0 is_arc tail best.1 (omega (arith, order, within)) in
        omega (arith, is, order)

    bounds_all : (time : ℕ) → Reaches roads answers sources target time → label target ≤ time
    bounds_all time reaches = elim (leb_tells (label target) time) [
      | inl low ↦ low.1
      | inr high ↦ label_le (led.at_sources reaches.source reaches.among) reaches.arrives reaches.within (omega (arith, consistent.at_target)) (omega (arith, consistent.at_target, high.1))
    ]

    least_by_test : (none : Bool) → (label target == NONE) ≡ none → IsLeast roads answers sources target (if none then None else Some (label target))
    least_by_test true same = λ other reaches.
        let low = bounds_all other reaches in
        let within = reaches.within in
        let is : label target ≡ NONE = eqb-true _ _ same in
        omega (arith, low, within, is)
    least_by_test false differs =
        (led.reached target is_target (λ same. false≢true (sym differs ∙ eq-eqb _ _ same)), bounds_all)

    pub target_label_is_least : IsLeast roads answers sources target (time_of (label target))
    target_label_is_least = least_by_test (label target == NONE) refl
