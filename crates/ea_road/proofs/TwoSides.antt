-- Two sides of one question: who leaves at a departure arrives in time exactly if the latest departure is no earlier.
use Rattle.std.proofs.Common.{◌≡◌, ℕ, zero, suc, ◌-◌, ◌≤◌, List, [], ◌∷◌, map, max, refl, ap, sym, subst, arith}
use Rattle.std.specs.Prelude.{IsSomeAnd, Option, Some, None}
use Rattle.std.specs.List.{IsAmong}
use Rattle.ea_base.specs.declared.limits.TheConstants.{HORIZON}
use Rattle.ea_travel_times.specs.Answers.{IsFifo}
use Rattle.ea_travel_times.specs.TurnedLaws.{turned_is_fifo}
use Rattle.ea_travel_times.specs.TurnedTimes.{IsTurned}
use Rattle.ea_road.specs.declared.arc.Arc.{Arc}
use Rattle.ea_road.specs.declared.source.Source.{Source}
use Rattle.ea_road.specs.declared.target.Target.{Target}
use Rattle.ea_road.specs.Roads.{IsNetwork, IsNode, Roads, top_class}
use Rattle.ea_road.specs.Arrivals.{Arrives, Reaches, IsLeast}
use Rattle.ea_road.specs.LatestDepartures.{AreTargets, ReachesInTime, IsLatestDeparture, turned_targets}
use Rattle.ea_road.specs.Turned.{turned_arc, turned_roads}
use Rattle.ea_road.proofs.Existing.{has_least}
use Rattle.ea_road.proofs.TurnedArrivals.{least_is_latest, none_is_none, target_back}
use Rattle.ea_road.proofs.TurnedWalks.{arrives_earlier}
use Rattle.ea_road.proofs.Turning.{turned_is_network}

one_among : {X : Type 0} (only : X) → IsAmong (only ∷ []) only
one_among only = (0, (omega arith, refl))

only_one : {X : Type 0} (only other : X) → IsAmong (only ∷ []) other → other ≡ only
only_one only other (zero, (inside, same)) = same
only_one only other (suc place, (inside, same)) = absurd (omega arith)

top_class-turned : (arcs : List Arc) → top_class (map turned_arc arcs) ≡ top_class arcs
top_class-turned [] = refl
top_class-turned (arc ∷ arcs) = ap (λ n. max arc.class n) (top_class-turned arcs)

-- each node has a latest departure, a time or none
module _
    (roads : Roads)
    (answers : ℕ → ℕ → ℕ → ℕ → Type 0)
    (classes : ℕ)
    (targets : List Target)
    (network : IsNetwork roads)
    (classed : top_class roads.arcs ≤ classes)
    (fifo : IsFifo answers classes)
    (are : AreTargets targets)
    (nodes : (target : Target) → IsAmong targets target → IsNode roads.nodes target.node)
  where
    starts : (source : Source) → IsAmong (turned_targets targets) source → IsNode roads.nodes source.node
    starts source among =
        let found = target_back targets source among in
        subst (λ (s : Source). IsNode roads.nodes s.node) (sym found.2) (nodes found.0 found.1)

    departs : (source : Source) → IsAmong (turned_targets targets) source → source.departure ≤ HORIZON
    departs source among =
        let found = target_back targets source among in
        subst (λ (s : Source). s.departure ≤ HORIZON) (sym found.2) (omega arith)

    pub has_latest : (node : ℕ) → (departure : Option ℕ) × IsLatestDeparture roads answers targets node departure
    has_latest node = of_least found.0 found.1
      where
        found : (arrival : Option ℕ) × IsLeast (turned_roads roads) (IsTurned answers) (turned_targets targets) node arrival
        found = has_least (turned_roads roads) (IsTurned answers) classes (turned_targets targets) (turned_is_network roads network) (rw (top_class-turned roads.arcs) classed) (turned_is_fifo answers classes fifo) starts departs node

        of_least : (arrival : Option ℕ) → IsLeast (turned_roads roads) (IsTurned answers) (turned_targets targets) node arrival → (departure : Option ℕ) × IsLatestDeparture roads answers targets node departure
        of_least (Some time) least = (Some (HORIZON - time), least_is_latest roads answers classes targets network classed fifo are node time least)
        of_least None none = (None, none_is_none roads answers classes targets network classed fifo are node none)

module _
    (roads : Roads)
    (answers : ℕ → ℕ → ℕ → ℕ → Type 0)
    (classes : ℕ)
    (source : Source)
    (target : Target)
    (network : IsNetwork roads)
    (classed : top_class roads.arcs ≤ classes)
    (fifo : IsFifo answers classes)
    (leaves : source.departure ≤ HORIZON)
    (horizon : target.time ≤ HORIZON)
  where
    -- an arrival in time is a departure that is in time
    in_time : (time : ℕ) → Reaches roads answers (source ∷ []) target.node time → time ≤ target.time → ReachesInTime roads answers (target ∷ []) source.node source.departure
    in_time time reaches by = record {
      walk = reaches.walk;
      attains = record {
        target = target;
        among = one_among target;
        arrival = time;
        arrives = subst (λ (s : Source). Arrives roads answers s.node s.departure reaches.walk target.node time) (only_one source reaches.source reaches.among) reaches.arrives;
        by = by;
      };
      within = leaves;
    }

    -- who leaves no later than a departure that is in time arrives in time
    arrives_by : (departure : ℕ) → source.departure ≤ departure → ReachesInTime roads answers (target ∷ []) source.node departure → (time : ℕ) × Reaches roads answers (source ∷ []) target.node time × (time ≤ target.time)
    arrives_by departure order reaches =
        let it = reaches.attains in
        let same = only_one target it.target it.among in
        let by = subst (λ (t : Target). it.arrival ≤ t.time) same it.by in
        let arrives = subst (λ (t : Target). Arrives roads answers source.node departure reaches.walk t.node it.arrival) same it.arrives in
        let sooner = arrives_earlier roads answers classes network classed fifo source.departure order arrives in (
          sooner.0,
          record { source = source; walk = reaches.walk; among = one_among source; arrives = sooner.1; within = omega (arith, sooner.2, by, horizon) },
          omega (arith, sooner.2, by),
        )

    pub forth : (arrival departure : Option ℕ) → IsLeast roads answers (source ∷ []) target.node arrival → IsLatestDeparture roads answers (target ∷ []) source.node departure → IsSomeAnd arrival (λ time. time ≤ target.time) → IsSomeAnd departure (λ time. source.departure ≤ time)
    forth (Some time) (Some departure) least latest by = latest.1 source.departure (in_time time least.0 by)
    forth (Some time) None least latest by = absurd (latest source.departure (in_time time least.0 by))
    forth None departure least latest by = absurd by

    pub back : (arrival departure : Option ℕ) → IsLeast roads answers (source ∷ []) target.node arrival → IsLatestDeparture roads answers (target ∷ []) source.node departure → IsSomeAnd departure (λ time. source.departure ≤ time) → IsSomeAnd arrival (λ time. time ≤ target.time)
    back (Some time) (Some departure) least latest order =
        let found = arrives_by departure order latest.0 in
        let bound = least.1 found.0 found.1 in
        omega (arith, bound, found.2)
    back None (Some departure) least latest order = let found = arrives_by departure order latest.0 in absurd (least found.0 found.1)
    back arrival None least latest order = absurd order

    -- an arrival in time, and a departure that is no later than the latest one
    module _ (at_source : IsNode roads.nodes source.node) (at_target : IsNode roads.nodes target.node) where
      pub times_forth : ((arrival : ℕ) × IsLeast roads answers (source ∷ []) target.node (Some arrival) × (arrival ≤ target.time)) → (departure : ℕ) × IsLatestDeparture roads answers (target ∷ []) source.node (Some departure) × (source.departure ≤ departure)
      times_forth found = by_latest latest.0 latest.1
        where
          only_target : (other : Target) → IsAmong (target ∷ []) other → IsNode roads.nodes other.node
          only_target other among = subst (λ (t : Target). IsNode roads.nodes t.node) (sym (only_one target other among)) at_target

          are : AreTargets (target ∷ [])
          are = record { within = λ other among. subst (λ (t : Target). t.time ≤ HORIZON) (sym (only_one target other among)) horizon }

          latest : (departure : Option ℕ) × IsLatestDeparture roads answers (target ∷ []) source.node departure
          latest = has_latest roads answers classes (target ∷ []) network classed fifo are only_target source.node

          by_latest : (departure : Option ℕ) → IsLatestDeparture roads answers (target ∷ []) source.node departure → (departure : ℕ) × IsLatestDeparture roads answers (target ∷ []) source.node (Some departure) × (source.departure ≤ departure)
          by_latest (Some departure) is = (departure, is, forth (Some found.0) (Some departure) found.1 is found.2)
          by_latest None is = absurd (forth (Some found.0) None found.1 is found.2)

      pub times_back : ((departure : ℕ) × IsLatestDeparture roads answers (target ∷ []) source.node (Some departure) × (source.departure ≤ departure)) → (arrival : ℕ) × IsLeast roads answers (source ∷ []) target.node (Some arrival) × (arrival ≤ target.time)
      times_back found = by_least least.0 least.1
        where
          only_source : (other : Source) → IsAmong (source ∷ []) other → IsNode roads.nodes other.node
          only_source other among = subst (λ (s : Source). IsNode roads.nodes s.node) (sym (only_one source other among)) at_source

          only_departure : (other : Source) → IsAmong (source ∷ []) other → other.departure ≤ HORIZON
          only_departure other among = subst (λ (s : Source). s.departure ≤ HORIZON) (sym (only_one source other among)) leaves

          least : (arrival : Option ℕ) × IsLeast roads answers (source ∷ []) target.node arrival
          least = has_least roads answers classes (source ∷ []) network classed fifo only_source only_departure target.node

          by_least : (arrival : Option ℕ) → IsLeast roads answers (source ∷ []) target.node arrival → (arrival : ℕ) × IsLeast roads answers (source ∷ []) target.node (Some arrival) × (arrival ≤ target.time)
          by_least (Some arrival) is = (arrival, is, back (Some arrival) (Some found.0) is found.1 found.2)
          by_least None is = absurd (back None (Some found.0) is found.1 found.2)
