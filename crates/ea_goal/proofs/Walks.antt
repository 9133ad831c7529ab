-- What a led search leaves gives the target's canonical walk.
use Rattle.std.proofs.Common.{refl, ℕ, ◌+◌, ◌<◌, ◌≤◌, inl, inr, List, arith, subst}
use Rattle.std.proofs.lemmas.Bool.Decides.{leb_tells}
use Rattle.std.specs.Prelude.{◌≢◌, Option, Some, None}
use Rattle.std.specs.List.{IsAmong}
use Rattle.ea_base.specs.declared.limits.TheConstants.{HORIZON}
use Rattle.ea_road.specs.declared.TheConstants.{NONE}
use Rattle.ea_road.specs.declared.arc.Arc.{Arc}
use Rattle.ea_road.specs.declared.source.Source.{Source}
use Rattle.ea_road.specs.Arrivals.{Reaches, IsLeast, IsLeastAt}
use Rattle.ea_road.specs.Labels.{IsFixed, IsLabel, time_of}
use Rattle.ea_road.specs.Levels.{HasChain, IsCanonical}
use Rattle.ea_road.specs.Queries.{Asking}
use Rattle.ea_road.specs.Roads.{IsArc, IsNetwork, IsNode, Roads, top_class}
use Rattle.ea_road.proofs.Existing.{has_least}
use Rattle.ea_road.proofs.Fixed.{label_is_least}
use Rattle.ea_road.proofs.Reached.{reaches_more, reaches_source}
use Rattle.ea_road.proofs.Rooted.{chain_to}
use Rattle.ea_road.proofs.Walked.{labels_are_times, least_are_times}
use Rattle.ea_travel_times.specs.Answers.{IsFifo}
use Rattle.ea_hierarchy.specs.declared.numbers.TheConstants.{NONE as NO_WALK}
use Rattle.ea_goal.specs.Led.{IsLedTo}
use Rattle.ea_goal.proofs.Agreeing.{SaysNear, canonical_there, chain_there}
use Rattle.ea_goal.proofs.Least.{label_le, target_label_is_least}

-- a least arrival as a label
abbrev label_for : Option ℕ → ℕ
label_for (Some time) = time
label_for None = NONE

module _
    (roads : Roads)
    (answers : ℕ → ℕ → ℕ → ℕ → Type 0)
    (classes : ℕ)
    (sources : List Source)
    (target : ℕ)
    (label : ℕ → ℕ)
    (network : IsNetwork roads)
    (classed : top_class roads.arcs ≤ classes)
    (fifo : IsFifo answers classes)
    (starts : (source : Source) → IsAmong sources source → IsNode roads.nodes source.node)
    (departs : (source : Source) → IsAmong sources source → source.departure ≤ HORIZON)
    (is_target : IsNode roads.nodes target)
    (led : IsLedTo roads answers sources target label)
  where
    never : (time node : ℕ) → ⊥ → ⊥
    never time node is = is

    -- the target's label is its least arrival
    pub least : IsLeast roads answers sources target (time_of (label target))
    least = target_label_is_least roads answers classes sources target led.bound label (λ time node. ⊥) network classed fifo is_target led.consistent led.led never

    abbrev all : Asking
    all = record { sources = sources; target = None }

    -- at a near node the label is least: it and the bound together aren't above the target's label
    abbrev near : ℕ → ℕ → Type 0
    near node time = (led.bound node < NO_WALK) × (time + led.bound node ≤ label target)

    closed : (number departure arrival : ℕ) (arc : Arc) → IsArc roads number arc → departure ≤ HORIZON → arrival ≤ HORIZON → answers arc.class arc.weight departure arrival → near arc.head arrival → near arc.tail departure
    closed number departure arrival arc is_arc left within answer close =
        let along = led.consistent.along number departure arrival arc is_arc left within answer close.0 in
        (along.0, omega (arith, along.1, close.1))

    low : (node time : ℕ) → near node time → Reaches roads answers sources node time → label node ≤ time
    low node time close reaches = label_le roads answers classes sources target led.bound label (λ time node. ⊥) network classed fifo is_target led.consistent led.led never (led.led.at_sources reaches.source reaches.among) reaches.arrives reaches.within close.0 close.1

    labels_say : SaysNear roads.nodes near (IsLabel label) (IsLeastAt roads answers sources)
    labels_say node time is_node close at =
        let reaches = led.led.reached node is_node (λ none. omega (arith, at.0, at.1, none)) in (
          subst (λ t. Reaches roads answers sources node t) at.0 reaches,
          λ other also. elim (leb_tells time other) [
            | inl before ↦ before.1
            | inr sooner ↦
                let below = low node other (close.0, omega (arith, sooner.1, close.1)) also in
                omega (arith, below, at.0)
          ],
        )

    least_say : SaysNear roads.nodes near (IsLeastAt roads answers sources) (IsLabel label)
    least_say node time is_node close is_least =
        let within = is_least.0.within in
        let below = low node time close is_least.0 in
        let above = is_least.1 (label node) (led.led.reached node is_node (λ none. omega (arith, below, within, none))) in
        (omega (arith, below, above), within)

    target_near : label target ≢ NONE → near target (label target)
    target_near some = (omega (arith, led.consistent.at_target), omega (arith, led.consistent.at_target))

    target_at : label target ≢ NONE → IsLabel label target (label target)
    target_at some = (refl, (led.led.reached target is_target some).within)

    -- the least arrivals of all nodes, as labels
    given : (node : ℕ) → (arrival : Option ℕ) × IsLeast roads answers sources node arrival
    given node = has_least roads answers classes sources network classed fifo starts departs node

    abbrev best : ℕ → ℕ
    best node = label_for (given node).0

    best_reached : (arrival : Option ℕ) (node : ℕ) → IsLeast roads answers sources node arrival → label_for arrival ≢ NONE → Reaches roads answers sources node (label_for arrival)
    best_reached (Some time) node is some = is.0
    best_reached None node is some = absurd (some refl)

    best_low : (arrival : Option ℕ) (node other : ℕ) → IsLeast roads answers sources node arrival → Reaches roads answers sources node other → label_for arrival ≤ other
    best_low (Some time) node other is reaches = is.1 other reaches
    best_low None node other is reaches = absurd (is other reaches)

    best_fixed : IsFixed roads answers all best
    best_fixed = record {
      at_sources = λ source among. best_low (given source.node).0 source.node source.departure (given source.node).1 (reaches_source roads answers sources source among (departs source among));
      reached = λ node is_node some. best_reached (given node).0 node (given node).1 some;
      satisfied = λ node is_node some below number arc arrival is_arc tail answer within.
          let before = best_reached (given node).0 node (given node).1 some in
          best_low (given arc.head).0 arc.head arrival (given arc.head).1 (reaches_more roads answers sources node (best node) number arc.head arrival arc before is_arc tail refl answer within);
    }

    best_bounded : (node : ℕ) (arrival : Option ℕ) → IsLeast roads answers sources node arrival → label_for arrival ≤ NONE
    best_bounded node (Some time) is = let within = is.0.within in omega (arith, within)
    best_bounded node None is = omega arith

    best_say : SaysNear roads.nodes near (IsLabel best) (IsLabel label)
    best_say node time is_node close at =
        least_say node time is_node close (label_is_least roads answers classes all best network classed fifo best_fixed node time is_node (omega (arith, at.1)) at)

    -- tight arcs lead to the target if it has a label
    pub chain_to_target : label target ≢ NONE → (count : ℕ) × HasChain roads answers sources (IsLabel label) target count
    chain_to_target some =
        let reaches = led.led.reached target is_target some in
        let within = reaches.within in
        let at_most = best_low (given target).0 target (label target) (given target).1 reaches in
        let has : best target ≢ NONE = (λ none. omega (arith, at_most, within, none)) in
        let chain = chain_to roads answers classes all best network classed fifo best_fixed starts target is_target has (best_bounded target (given target).0 (given target).1) in
        let at : IsLabel best target (best target) = (refl, omega (arith, at_most, within)) in
        let close : near target (best target) = (omega (arith, led.consistent.at_target), omega (arith, led.consistent.at_target, at_most)) in
        (chain.0, chain_there roads answers sources network starts near closed (IsLabel best) (IsLabel label) (labels_are_times best) best_say (best target) at close chain.1)

    -- a canonical walk to the target over the labels is one over the least arrivals
    pub canonical_over_least : (walk : List ℕ) → label target ≢ NONE → IsCanonical roads answers sources (IsLabel label) target walk → IsCanonical roads answers sources (IsLeastAt roads answers sources) target walk
    canonical_over_least walk some canonical =
        canonical_there roads answers sources network starts near closed (IsLabel label) (IsLeastAt roads answers sources) (labels_are_times label) (least_are_times roads answers classes all) labels_say least_say (label target) is_target (target_at some) (target_near some) canonical
