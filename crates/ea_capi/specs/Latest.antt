-- Searches for latest departures as callers see them: targets, answers and refusals.
use Rattle.std.specs.Prelude.{◌≡◌, ℕ, ◌-◌, ◌≤◌, Bool, true, List, [], ◌∷◌, Option, Some, None, reverse}
use Rattle.std.specs.List.{IsAmong}
use Rattle.ea_base.specs.declared.limits.TheConstants.{HORIZON}
use Rattle.ea_road.specs.declared.target.Target.{Target}
use Rattle.ea_road.specs.LatestDepartures.{AttainsInTime, IsCanonicalTo, IsLatestAt, IsLatestDeparture}
use Rattle.ea_road.specs.Queries.{IsAskedBy}
use Rattle.ea_road.specs.Roads.{Roads, IsNode}
use Rattle.ea_search.specs.Answers.{Answered, arrival_of, walk_of}
use Rattle.ea_capi.specs.declared.handle.content.LatestSearch.{LatestSearch}
use Rattle.ea_capi.specs.Sessions.{answers_on}
use Rattle.ea_capi.specs.States.{road_behind}

-- A target for this number of nodes: one of these, to be reached within the horizon.
pub record IsStop (nodes : ℕ) (target : Target) : Type 0 where
  pub node : IsNode nodes target.node
  pub time : target.time ≤ HORIZON

-- Each target is valid for this number of nodes.
pub record AreStops (nodes : ℕ) (targets : List Target) : Type 0 where
  pub each : (target : Target) → IsAmong targets target → IsStop nodes target

-- Nodes with the times by which they have to be reached.
abbrev pub stops : List ℕ → List ℕ → List Target
stops [] times = []
stops (node ∷ nodes) [] = []
stops (node ∷ nodes) (time ∷ times) = record { node = node; time = time } ∷ stops nodes times

-- A time of the turned question as a departure.
abbrev pub turned_back : Option ℕ → Option ℕ
turned_back None = None
turned_back (Some time) = Some (HORIZON - time)

-- The latest departure that an answer to the turned question gives for a node.
abbrev pub departure_of : Answered → ℕ → Option ℕ
departure_of answer node = turned_back (arrival_of answer node)

-- The walk to a target that it gives for a node, first arc first.
abbrev pub walk_back : Option (List ℕ) → Option (List ℕ)
walk_back None = None
walk_back (Some walk) = Some (reverse walk)

abbrev pub walk_to : Answered → ℕ → Option (List ℕ)
walk_to answer node = walk_back (walk_of answer node)

-- An answer has the latest departures of the asked nodes for targets, and with walks the canonical walks, which are in time.
pub record AreLatest (roads : Roads) (answers : ℕ → ℕ → ℕ → ℕ → Type 0) (targets : List Target) (asked : Option ℕ) (walks : Bool) (answer : Answered) : Type 0 where
  pub nodes : answer.nodes ≡ roads.nodes
  pub target : answer.target ≡ asked
  pub latest : (node : ℕ) → IsNode roads.nodes node → IsAskedBy asked node → IsLatestDeparture roads answers targets node (departure_of answer node)
  pub canonical : walks ≡ true → (node : ℕ) (walk : List ℕ) → IsNode roads.nodes node → IsAskedBy asked node → walk_to answer node ≡ Some walk
      → IsCanonicalTo roads answers targets (IsLatestAt roads answers targets) node walk
  pub in_time : walks ≡ true → (node departure : ℕ) (walk : List ℕ) → IsNode roads.nodes node → IsAskedBy asked node → departure_of answer node ≡ Some departure → walk_to answer node ≡ Some walk
      → AttainsInTime roads answers targets walk node departure

-- The search has such an answer on its road.
abbrev pub IsTimely : List Target → Option ℕ → LatestSearch → Type 0
IsTimely targets asked search = AreLatest (road_behind search).network (answers_on (road_behind search)) targets asked search.walks search.search.answer

-- The road and the room are unchanged.
pub record IsSameLatest (old new : LatestSearch) : Type 0 where
  pub road : road_behind new ≡ road_behind old
  pub walks : new.walks ≡ old.walks
