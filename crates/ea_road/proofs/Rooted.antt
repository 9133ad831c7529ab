-- With fixed labels, tight arcs lead to each node that has a label up to the target's.
use Rattle.std.proofs.Common.{◌≡◌, refl, ℕ, zero, suc, ◌<◌, ◌≤◌, List, ◌⊎◌, inl, inr, arith, subst}
use Rattle.std.proofs.lemmas.Bool.Decides.{eqb_tells}
use Rattle.std.specs.Prelude.{◌≢◌}
use Rattle.std.specs.List.{IsAmong}
use Rattle.ea_base.specs.declared.limits.TheConstants.{HORIZON}
use Rattle.ea_road.specs.declared.TheConstants.{NONE}
use Rattle.ea_road.specs.declared.arc.Arc.{Arc}
use Rattle.ea_road.specs.declared.source.Source.{Source}
use Rattle.ea_travel_times.specs.Answers.{IsFifo}
use Rattle.ea_road.specs.Roads.{Roads, IsArc, IsNode, IsNetwork, top_class}
use Rattle.ea_road.specs.Arrivals.{Arrives, stays, goes}
use Rattle.ea_road.specs.Queries.{Asking}
use Rattle.ea_road.specs.Labels.{IsFixed, IsLabel, limit}
use Rattle.ea_road.specs.Levels.{IsTight, HasChain, begins, follows}
use Rattle.ea_road.proofs.Arcs.{is_question}
use Rattle.ea_road.proofs.Chains.{make_tight}
use Rattle.ea_road.proofs.Fixed.{labelled, label_le, label_le-by_arc}

-- equal, or below
tells : (low high : ℕ) → low ≤ high → (low ≡ high) ⊎ (low < high)
tells low high bound = elim (eqb_tells low high) [ inl same ↦ inl same.1 | inr other ↦ inr (below other.1) ]
  where
    below : low ≢ high → low < high
    below differs = omega arith

module _
    (roads : Roads)
    (answers : ℕ → ℕ → ℕ → ℕ → Type 0)
    (classes : ℕ)
    (query : Asking)
    (label : ℕ → ℕ)
    (network : IsNetwork roads)
    (classed : top_class roads.arcs ≤ classes)
    (fifo : IsFifo answers classes)
    (fixed : IsFixed roads answers query label)
    (starts : (source : Source) → IsAmong query.sources source → IsNode roads.nodes source.node)
  where
    abbrev Chain : ℕ → Type 0
    Chain node = (count : ℕ) × HasChain roads answers query.sources (IsLabel label) node count

    -- the last arc of a walk that arrives at the label is tight
    pub tight : (number node time arrival : ℕ) (arc : Arc) → label node ≤ time → time ≤ HORIZON → IsArc roads number arc → arc.tail ≡ node → answers arc.class arc.weight time arrival → arrival ≤ HORIZON → arrival ≤ limit query.target label → label arc.head ≡ arrival → IsTight roads answers (IsLabel label) number node arc.head
    tight number node time arrival arc bound within is_arc tail answer horizon low same =
        let sooner : label node ≤ HORIZON = omega arith in
        let asked = is_question roads classes number (label node) arc network classed is_arc sooner in
        let later = is_question roads classes number time arc network classed is_arc within in
        let best = fifo.has_answer arc.class arc.weight (label node) asked in
        let order = fifo.in_order arc.class arc.weight (label node) time best.0 arrival asked later best.1 answer bound in
        let after = fifo.not_before arc.class arc.weight time arrival later answer in
        let is_node = subst (λ n. IsNode roads.nodes n) tail (network.each_fits number arc is_arc).tail in
        let step = fixed.satisfied node is_node (labelled (label node) sooner) (omega arith) number arc best.0 is_arc tail best.1 (omega arith) in
        let e : best.0 ≡ label arc.head = omega arith in
        make_tight roads answers classes query.sources label network classed fifo number node arc.head arc is_arc tail refl sooner (omega arith) (subst (λ a. answers arc.class arc.weight (label node) a) e best.1)

    abbrev top : ℕ
    top = limit query.target label

    along : (fuel : ℕ) → ((node : ℕ) → IsNode roads.nodes node → label node < fuel → label node ≤ HORIZON → label node ≤ top → Chain node) → (source : Source) → IsAmong query.sources source → {walk : List ℕ} {node time : ℕ} → Arrives roads answers source.node source.departure walk node time → time ≤ fuel → time ≤ HORIZON → time ≤ top → Chain node
    along fuel earlier source among stays below within low =
        elim (tells (label source.node) source.departure (fixed.at_sources source among)) [
          | inl same ↦ (0, begins among (same, within))
          | inr sooner ↦ earlier source.node (starts source among) (omega arith) (omega arith) (omega arith)
        ]
    along fuel earlier source among (goes {node} {time} {number} {arrival} {arc} before inside is_arc tail answer) below within low =
        let asked = is_question roads classes number time arc network classed is_arc inside in
        let onward = fifo.not_before arc.class arc.weight time arrival asked answer in
        let bound = label_le roads answers classes query label network classed fifo fixed (fixed.at_sources source among) before inside (omega arith) in
        let head_bound = label_le-by_arc roads answers classes query label network classed fifo fixed number node time arrival arc bound inside is_arc tail answer within low in
        elim (tells (label arc.head) arrival head_bound) [
          | inl same ↦
              let chain = along fuel earlier source among before (omega arith) inside (omega arith) in
              (suc chain.0, follows chain.1 (tight number node time arrival arc bound inside is_arc tail answer within low same))
          | inr sooner ↦ earlier arc.head (network.each_fits number arc is_arc).head (omega arith) (omega arith) (omega arith)
        ]

    chain_below : (fuel : ℕ) (node : ℕ) → IsNode roads.nodes node → label node < fuel → label node ≤ HORIZON → label node ≤ top → Chain node
    chain_below zero node is_node below within low = absurd (omega arith)
    chain_below (suc fuel) node is_node below within low =
        let reaches = fixed.reached node is_node (labelled (label node) within) in
        along fuel (chain_below fuel) reaches.source reaches.among reaches.arrives (omega arith) within low

    pub chain_to : (node : ℕ) → IsNode roads.nodes node → label node ≢ NONE → label node ≤ top → Chain node
    chain_to node is_node has_label low =
        chain_below (suc (label node)) node is_node (omega arith) (fixed.reached node is_node has_label).within low
