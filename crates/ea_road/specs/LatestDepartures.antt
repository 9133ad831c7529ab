-- Latest departures: when to leave each node to reach some target by its time.
use Rattle.std.specs.Prelude.{◌≡◌, ℕ, suc, ◌-◌, ◌≤◌, Option, Some, None, List, [], ◌∷◌, map}
use Rattle.std.specs.List.{IsAmong}
use Rattle.ea_base.specs.declared.limits.TheConstants.{HORIZON}
use Rattle.ea_travel_times.specs.Departures.{IsDepartureBy}
use Rattle.ea_road.specs.declared.arc.Arc.{Arc}
use Rattle.ea_road.specs.declared.source.Source.{Source}
use Rattle.ea_road.specs.declared.target.Target.{Target}
use Rattle.ea_road.specs.Roads.{Roads, IsArc}
use Rattle.ea_road.specs.Arrivals.{Arrives}

-- Each target has to be reached within the horizon.
pub record AreTargets (targets : List Target) : Type 0 where
  pub within : (target : Target) → IsAmong targets target → target.time ≤ HORIZON

-- The walk leads from the node, left at the departure, to some target, by the target's time.
pub record AttainsInTime
    (roads : Roads)
    (answers : ℕ → ℕ → ℕ → ℕ → Type 0)
    (targets : List Target)
    (walk : List ℕ)
    (node departure : ℕ)
    : Type 0 where
  pub target : Target
  pub among : IsAmong targets target
  pub arrival : ℕ
  pub arrives : Arrives roads answers node departure walk target.node arrival
  pub by : arrival ≤ target.time

-- Some walk from the node, left at the departure, within the horizon, is in time.
pub record ReachesInTime
    (roads : Roads)
    (answers : ℕ → ℕ → ℕ → ℕ → Type 0)
    (targets : List Target)
    (node departure : ℕ)
    : Type 0 where
  pub walk : List ℕ
  pub attains : AttainsInTime roads answers targets walk node departure
  pub within : departure ≤ HORIZON

-- A departure that is in time, if no later one is; or none, if no departure is.
abbrev pub IsLatestDeparture : Roads → (ℕ → ℕ → ℕ → ℕ → Type 0) → List Target → ℕ → Option ℕ → Type 0
IsLatestDeparture roads answers targets node (Some departure) =
    ReachesInTime roads answers targets node departure × ((later : ℕ) → ReachesInTime roads answers targets node later → later ≤ departure)
IsLatestDeparture roads answers targets node None =
    (departure : ℕ) → ReachesInTime roads answers targets node departure → ⊥

-- The latest departures, as a relation: the node's is the time.
abbrev pub IsLatestAt : Roads → (ℕ → ℕ → ℕ → ℕ → Type 0) → List Target → ℕ → ℕ → Type 0
IsLatestAt roads answers targets node time = IsLatestDeparture roads answers targets node (Some time)

-- An arc whose latest departure for the time of its head is the time of its tail.
pub record IsTightTo
    (roads : Roads)
    (answers : ℕ → ℕ → ℕ → ℕ → Type 0)
    (times : ℕ → ℕ → Type 0)
    (number tail head : ℕ)
    : Type 0 where
  pub arc : Arc
  pub is_arc : IsArc roads number arc
  pub is_tail : arc.tail ≡ tail
  pub is_head : arc.head ≡ head
  pub departure : ℕ
  pub arrival : ℕ
  pub at_tail : times tail departure
  pub at_head : times head arrival
  pub latest : IsDepartureBy answers arc.class arc.weight arrival departure

-- This number of such arcs leads from the node to a target whose time is that of its node.
pub data HasChainTo
    (roads : Roads)
    (answers : ℕ → ℕ → ℕ → ℕ → Type 0)
    (targets : List Target)
    (times : ℕ → ℕ → Type 0)
    : ℕ → ℕ → Type 0 where
  ends : {target : Target} → IsAmong targets target → times target.node target.time → HasChainTo roads answers targets times target.node 0
  precedes : {tail head number count : ℕ} → HasChainTo roads answers targets times head count → IsTightTo roads answers times number tail head → HasChainTo roads answers targets times tail (suc count)

-- The fewest arcs in such a chain from the node.
pub record IsLevelTo
    (roads : Roads)
    (answers : ℕ → ℕ → ℕ → ℕ → Type 0)
    (targets : List Target)
    (times : ℕ → ℕ → Type 0)
    (node level : ℕ)
    : Type 0 where
  pub chain : HasChainTo roads answers targets times node level
  pub fewest : (count : ℕ) → HasChainTo roads answers targets times node count → level ≤ count

-- The canonical walk to a target: empty at level 0; else the lowest-numbered such arc to a node one level below, followed by the
-- canonical walk of that node.
pub data IsCanonicalTo
    (roads : Roads)
    (answers : ℕ → ℕ → ℕ → ℕ → Type 0)
    (targets : List Target)
    (times : ℕ → ℕ → Type 0)
    : ℕ → List ℕ → Type 0 where
  at_target : {node : ℕ} → IsLevelTo roads answers targets times node 0 → IsCanonicalTo roads answers targets times node []
  by_first : {tail head number level : ℕ} {walk : List ℕ} → IsCanonicalTo roads answers targets times head walk → IsLevelTo roads answers targets times head level → IsLevelTo roads answers targets times tail (suc level) → IsTightTo roads answers times number tail head → ((other to : ℕ) → IsTightTo roads answers times other tail to → IsLevelTo roads answers targets times to level → number ≤ other) → IsCanonicalTo roads answers targets times tail (number ∷ walk)

-- The source of the turned question at which what has to be reached by a time begins.
abbrev pub turned_target : Target → Source
turned_target target = record { node = target.node; departure = HORIZON - target.time }

abbrev pub turned_targets : List Target → List Source
turned_targets targets = map turned_target targets
