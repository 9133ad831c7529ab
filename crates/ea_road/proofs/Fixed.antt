-- Fixed labels are least, up to the target's label.
use Rattle.std.proofs.Common.{◌≡◌, ◌∙◌, refl, ℕ, ◌≤◌, List, Bool, true, false, arith, subst, sym, ap, inl, inr, eq-eqb, eqb-true}
use Rattle.std.proofs.lemmas.Bool.{false≢true}
use Rattle.std.proofs.lemmas.Bool.Decides.{eqb_tells, leb_tells}
use Rattle.std.specs.Prelude.{◌≢◌, ◌==◌, if◌then◌else◌, Option, Some, None}
use Rattle.ea_base.specs.declared.limits.TheConstants.{HORIZON}
use Rattle.ea_road.specs.declared.TheConstants.{NONE}
use Rattle.ea_road.specs.declared.arc.Arc.{Arc}
use Rattle.ea_travel_times.specs.Answers.{IsFifo}
use Rattle.ea_road.specs.Roads.{Roads, IsArc, IsNode, IsNetwork, top_class}
use Rattle.ea_road.specs.Queries.{Asking, IsAskedBy, IsAsked}
use Rattle.ea_road.specs.Arrivals.{Arrives, stays, goes, Reaches, IsLeast, IsLeastAt}
use Rattle.ea_road.specs.Labels.{IsFixed, IsLabel, limit, time_of}
use Rattle.ea_road.proofs.Arcs.{is_question}

pub labelled : (label : ℕ) → label ≤ HORIZON → label ≢ NONE
labelled label within same = omega arith

-- a node has one least arrival
pub one_least : (roads : Roads) (answers : ℕ → ℕ → ℕ → ℕ → Type 0) (query : Asking) (node : ℕ) (this that : Option ℕ) → IsLeast roads answers query.sources node this → IsLeast roads answers query.sources node that → this ≡ that
one_least roads answers query node (Some time) (Some other) this that =
    let low = this.1 other that.0 in
    let high = that.1 time this.0 in
    let same : time ≡ other = omega arith in
    cc
one_least roads answers query node (Some time) None this that = absurd (that time this.0)
one_least roads answers query node None (Some other) this that = absurd (this other that.0)
one_least roads answers query node None None this that = refl

module _
    (roads : Roads)
    (answers : ℕ → ℕ → ℕ → ℕ → Type 0)
    (classes : ℕ)
    (query : Asking)
    (label : ℕ → ℕ)
    (network : IsNetwork roads)
    (classed : top_class roads.arcs ≤ classes)
    (fifo : IsFifo answers classes)
    (fixed : IsFixed roads answers query label)
  where
    -- a node's label bounds the arrivals by its arcs
    pub label_le-by_arc : (number node time arrival : ℕ) (arc : Arc) → label node ≤ time → time ≤ HORIZON → IsArc roads number arc → arc.tail ≡ node → answers arc.class arc.weight time arrival → arrival ≤ HORIZON → arrival ≤ limit query.target label → label arc.head ≤ arrival
    label_le-by_arc number node time arrival arc bound within is_arc tail answer horizon below =
        let sooner : label node ≤ HORIZON = omega arith in
        let asked = is_question roads classes number (label node) arc network classed is_arc sooner in
        let later = is_question roads classes number time arc network classed is_arc within in
        let best = fifo.has_answer arc.class arc.weight (label node) asked in
        let order = fifo.in_order arc.class arc.weight (label node) time best.0 arrival asked later best.1 answer bound in
        let after = fifo.not_before arc.class arc.weight time arrival later answer in
        let is_node = subst (λ n. IsNode roads.nodes n) tail (network.each_fits number arc is_arc).tail in
        let step = fixed.satisfied node is_node (labelled (label node) sooner) (omega arith) number arc best.0 is_arc tail best.1 (omega arith) in
        omega arith

    pub label_le : {start departure node time : ℕ} {walk : List ℕ} → label start ≤ departure → Arrives roads answers start departure walk node time → time ≤ HORIZON → time ≤ limit query.target label → label node ≤ time
    label_le bound stays horizon below = bound
    label_le bound (goes {node} {time} {number} {arrival} {arc} before within is_arc tail answer) horizon below =
        let after = fifo.not_before arc.class arc.weight time arrival (is_question roads classes number time arc network classed is_arc within) answer in
        label_le-by_arc number node time arrival arc (label_le bound before within (omega arith)) within is_arc tail answer horizon below

    pub reached_label_le : (node time : ℕ) → Reaches roads answers query.sources node time → time ≤ limit query.target label → label node ≤ time
    reached_label_le node time reaches below =
        label_le (fixed.at_sources reaches.source reaches.among) reaches.arrives reaches.within below

    -- a label up to the target's is at most each time that reaches its node
    bounds_reached : (node other : ℕ) → label node ≤ limit query.target label → Reaches roads answers query.sources node other → label node ≤ other
    bounds_reached node other low reaches =
        elim (leb_tells other (limit query.target label)) [
          | inl below ↦ reached_label_le node other reaches below.1
          | inr above ↦ omega (arith, above.1)
        ]

    least_by_test : (node : ℕ) (none : Bool) → (label node == NONE) ≡ none → IsNode roads.nodes node → label node ≤ limit query.target label → IsLeast roads answers query.sources node (if none then None else Some (label node))
    least_by_test node true same is_node low =
        λ other reaches. let bound = bounds_reached node other low reaches in
        let within = reaches.within in
        let e : label node ≡ NONE = eqb-true _ _ same in
        omega arith
    least_by_test node false differs is_node low =
        (fixed.reached node is_node (λ same. false≢true (sym differs ∙ eq-eqb _ _ same)), λ other reaches. bounds_reached node other low reaches)

    pub labels_are_least : (node : ℕ) → IsNode roads.nodes node → label node ≤ limit query.target label → IsLeast roads answers query.sources node (time_of (label node))
    labels_are_least node is_node low = least_by_test node (label node == NONE) refl is_node low

    -- a label is NONE or within the horizon
    pub label_bounded : (node : ℕ) → IsNode roads.nodes node → label node ≤ NONE
    label_bounded node is_node =
        elim (eqb_tells (label node) NONE) [
          | inl same ↦ omega (arith, same.1)
          | inr differs ↦ let reached = fixed.reached node is_node differs.1 in let within = reached.within in omega arith
        ]

    asked_by : (target : Option ℕ) → query.target ≡ target → (node : ℕ) → IsNode roads.nodes node → IsAskedBy target node → label node ≤ limit target label
    asked_by None same node is_node asked = label_bounded node is_node
    asked_by (Some target) same node is_node asked = let e : label node ≡ label target = ap label asked in omega arith

    -- an asked node's label is up to the target's
    pub asked_up_to : (node : ℕ) → IsNode roads.nodes node → IsAsked query node → label node ≤ limit query.target label
    asked_up_to node is_node asked = asked_by query.target refl node is_node asked

    pub asked_labels_are_least : (node : ℕ) → IsNode roads.nodes node → IsAsked query node → IsLeast roads answers query.sources node (time_of (label node))
    asked_labels_are_least node is_node asked = labels_are_least node is_node (asked_up_to node is_node asked)

    -- labels up to the target's are the least arrivals up to it
    pub label_is_least : (node time : ℕ) → IsNode roads.nodes node → time ≤ limit query.target label → IsLabel label node time → IsLeastAt roads answers query.sources node time
    label_is_least node time is_node below says =
        let some : label node ≢ NONE = labelled (label node) (omega (arith, says)) in
        let reached = fixed.reached node is_node some in
        (subst (λ t. Reaches roads answers query.sources node t) says.0 reached, λ other reaches. let bound = bounds_reached node other (omega (arith, says)) reaches in omega (arith, says))

    pub least_is_label : (node time : ℕ) → IsNode roads.nodes node → time ≤ limit query.target label → IsLeastAt roads answers query.sources node time → IsLabel label node time
    least_is_label node time is_node below least =
        let within = least.0.within in
        let bound = reached_label_le node time least.0 below in
        let reached = fixed.reached node is_node (labelled (label node) (omega arith)) in
        let other = least.1 (label node) reached in
        (omega arith, within)
