-- The least arrivals of the turned question are the latest departures.
use Rattle.std.proofs.Common.{◌≡◌, ◌∙◌, refl, ℕ, ◌-◌, ◌<◌, ◌≤◌, List, length, get_or, arith, ap, subst, sym}
use Rattle.std.specs.Prelude.{Option, Some, None, reverse}
use Rattle.std.proofs.lemmas.List.{get_or-map, get_or_default, length-map}
use Rattle.std.specs.List.{IsAmong}
use Rattle.ea_base.specs.declared.limits.TheConstants.{HORIZON}
use Rattle.ea_travel_times.specs.Answers.{IsFifo}
use Rattle.ea_travel_times.specs.TurnedTimes.{IsTurned}
use Rattle.ea_road.specs.declared.source.Source.{Source}
use Rattle.ea_road.specs.declared.target.Target.{Target}
use Rattle.ea_road.specs.Roads.{Roads, IsNetwork, top_class}
use Rattle.ea_road.specs.Arrivals.{Arrives, Attains, Reaches, IsLeast}
use Rattle.ea_road.specs.LatestDepartures.{AreTargets, AttainsInTime, ReachesInTime, IsLatestDeparture, turned_target, turned_targets}
use Rattle.ea_road.specs.Turned.{turned_roads}
use Rattle.ea_road.proofs.TurnedWalks.{in_time_turned, turned_in_time}

-- a target's source is among the turned ones
pub target_turned : (targets : List Target) (target : Target) → IsAmong targets target → IsAmong (turned_targets targets) (turned_target target)
target_turned targets target among = (
  among.0,
  (
    rw (length-map targets turned_target) among.1.0,
    sym (get_or-map turned_target targets among.0 target (turned_target target) among.1.0 ∙ ap turned_target (sym among.1.1)),
  ),
)

-- a source of the turned question is that of a target
pub target_back : (targets : List Target) (source : Source) → IsAmong (turned_targets targets) source → (target : Target) × IsAmong targets target × (source ≡ turned_target target)
target_back targets source among =
    let inside : among.0 < length targets = rw (length-map targets turned_target) at among.1.0 in
    let none : Target = record { node = 0; time = 0 } in
    let target = get_or targets among.0 none in (
      target,
      (among.0, (inside, get_or_default targets among.0 none target inside)),
      among.1.1 ∙ get_or-map turned_target targets among.0 none source inside,
    )

module _
    (roads : Roads)
    (answers : ℕ → ℕ → ℕ → ℕ → Type 0)
    (classes : ℕ)
    (targets : List Target)
    (network : IsNetwork roads)
    (classed : top_class roads.arcs ≤ classes)
    (fifo : IsFifo answers classes)
    (are : AreTargets targets)
  where
    -- what attains a time of the turned question is in time, reversed
    pub attains_in_time : (walk : List ℕ) (node time : ℕ) → Attains (turned_roads roads) (IsTurned answers) (turned_targets targets) walk node time → time ≤ HORIZON → AttainsInTime roads answers targets (reverse walk) node (HORIZON - time)
    attains_in_time walk node time attains within =
        let found = target_back targets attains.source attains.among in
        let low = are.within found.0 found.1 in
        let arrives = subst (λ (s : Source). Arrives (turned_roads roads) (IsTurned answers) s.node s.departure walk node time) found.2 attains.arrives in
        let back = turned_in_time roads answers classes network classed fifo (omega arith) arrives within in
        record {
          target = found.0;
          among = found.1;
          arrival = back.0;
          arrives = back.1;
          by = omega (arith, back.2, low);
        }

    -- what the turned question reaches is in time
    pub reaches_in_time : (node time : ℕ) → Reaches (turned_roads roads) (IsTurned answers) (turned_targets targets) node time → ReachesInTime roads answers targets node (HORIZON - time)
    reaches_in_time node time reaches =
        let attains : Attains (turned_roads roads) (IsTurned answers) (turned_targets targets) reaches.walk node time = record { source = reaches.source; among = reaches.among; arrives = reaches.arrives } in
        record { walk = reverse reaches.walk; attains = attains_in_time reaches.walk node time attains reaches.within; within = omega arith }

    -- what is in time is reached by the turned question no later
    pub reaches_turned : (node departure : ℕ) → ReachesInTime roads answers targets node departure → (time : ℕ) × Reaches (turned_roads roads) (IsTurned answers) (turned_targets targets) node time × (time ≤ HORIZON - departure)
    reaches_turned node departure reaches =
        let it = reaches.attains in
        let found = in_time_turned roads answers classes network classed fifo it.target.time reaches.within it.arrives it.by (are.within it.target it.among) in (
          found.0,
          record {
            source = turned_target it.target;
            walk = reverse reaches.walk;
            among = target_turned targets it.target it.among;
            arrives = found.1;
            within = omega (arith, found.2);
          },
          found.2,
        )

    pub least_is_latest : (node time : ℕ) → IsLeast (turned_roads roads) (IsTurned answers) (turned_targets targets) node (Some time) → IsLatestDeparture roads answers targets node (Some (HORIZON - time))
    least_is_latest node time least = (
      reaches_in_time node time least.0,
      λ later reaches.
          let turned = reaches_turned node later reaches in
          let bound = least.1 turned.0 turned.1 in
          omega (arith, bound, turned.2, reaches.within),
    )

    pub latest_is_least : (node time : ℕ) → time ≤ HORIZON → IsLatestDeparture roads answers targets node (Some (HORIZON - time)) → IsLeast (turned_roads roads) (IsTurned answers) (turned_targets targets) node (Some time)
    latest_is_least node time within latest =
        let turned = reaches_turned node (HORIZON - time) latest.0 in
        let bound = latest.1 (HORIZON - turned.0) (reaches_in_time node turned.0 turned.1) in
        let inside = turned.1.within in
        let same : turned.0 ≡ time = omega (arith, bound, turned.2, inside, within) in (
          subst (λ t. Reaches (turned_roads roads) (IsTurned answers) (turned_targets targets) node t) same turned.1,
          λ other reaches.
              let low = latest.1 (HORIZON - other) (reaches_in_time node other reaches) in
              let other_inside = reaches.within in
              omega (arith, low, other_inside, within),
        )

    pub none_is_none : (node : ℕ) → IsLeast (turned_roads roads) (IsTurned answers) (turned_targets targets) node None → IsLatestDeparture roads answers targets node None
    none_is_none node none = λ departure reaches. let turned = reaches_turned node departure reaches in none turned.0 turned.1

    pub none_is_none_back : (node : ℕ) → IsLatestDeparture roads answers targets node None → IsLeast (turned_roads roads) (IsTurned answers) (turned_targets targets) node None
    none_is_none_back node none = λ time reaches. none (HORIZON - time) (reaches_in_time node time reaches)

-- a node has one latest departure
pub one_latest : (roads : Roads) (answers : ℕ → ℕ → ℕ → ℕ → Type 0) (targets : List Target) (node : ℕ) (this that : Option ℕ) → IsLatestDeparture roads answers targets node this → IsLatestDeparture roads answers targets node that → this ≡ that
one_latest roads answers targets node (Some time) (Some other) this that =
    let high = this.1 other that.0 in
    let low = that.1 time this.0 in
    let same : time ≡ other = omega arith in
    cc
one_latest roads answers targets node (Some time) None this that = absurd (that time this.0)
one_latest roads answers targets node None (Some other) this that = absurd (this other that.0)
one_latest roads answers targets node None None this that = refl
