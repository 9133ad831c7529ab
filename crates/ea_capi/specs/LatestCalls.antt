-- The outcomes of the calls on searches for latest departures.
use Rattle.std.specs.Prelude.{◌≡◌, ◌≢◌, ◌⊎◌, ℕ, ◌<◌, ◌-◌, Bool, List, length, take, slice_index, Option, Some, None}
use Rattle.ea_road.specs.declared.target.Target.{Target}
use Rattle.ea_road.specs.Labels.{time_of}
use Rattle.ea_road.specs.Roads.{IsNode}
use Rattle.ea_road.specs.Queries.{IsAskedBy}
use Rattle.ea_load.specs.declared.road.Road.{Road}
use Rattle.ea_capi.specs.declared.handle.content.Content.{Content}
use Rattle.ea_capi.specs.declared.handle.content.LatestSearch.{LatestSearch}
use Rattle.ea_capi.specs.Latest.{AreStops, IsStop, IsSameLatest, IsTimely, departure_of, stops, walk_to}
use Rattle.ea_capi.specs.States.{latest_in, road_behind, turned_in}

-- The handle holds the road turned round; or it is unchanged, as there is no road, or memory was refused.
abbrev pub IsTurnedRound : Option Road → Option Content → Option Content → ℕ → Type 0
IsTurnedRound None old new number = (number ≡ 16) × (new ≡ old)
IsTurnedRound (Some road) old new number = ((turned_in new ≡ Some road) × (number ≡ 0)) ⊎ ((new ≡ old) × (number ≡ 13))

-- The content is the road turned round.
abbrev pub IsTurnedOf : Option Road → Content → Type 0
IsTurnedOf None content = ⊥
IsTurnedOf (Some road) content = turned_in (Some content) ≡ Some road

-- A new search for latest departures on the road, if there is one.
abbrev pub IsNewLatest : Option Road → Bool → Option LatestSearch → Type 0
IsNewLatest None walks None = Unit {0}
IsNewLatest None walks (Some search) = ⊥
IsNewLatest (Some road) walks None = ⊥
IsNewLatest (Some road) walks (Some search) = (road_behind search ≡ road) × (search.walks ≡ walks)

-- The handle holds this search for latest departures; or it is unchanged, and memory was refused.
pub data IsLatestHeld (search : LatestSearch) (old new : Option Content) (number : ℕ) : Type 0 where
  held : latest_in new ≡ Some search → number ≡ 0 → IsLatestHeld search old new number
  no_memory : new ≡ old → number ≡ 13 → IsLatestHeld search old new number

-- A new search for latest departures on the road, with room for walks or without; or the handle is unchanged, and memory was refused.
abbrev pub IsLatestBegun : Option Road → Bool → Option Content → Option Content → ℕ → Type 0
IsLatestBegun None walks old new number = (number ≡ 16) × (new ≡ old)
IsLatestBegun (Some road) walks old new number =
    ((search : LatestSearch) × (latest_in new ≡ Some search) × (road_behind search ≡ road) × (search.walks ≡ walks) × (number ≡ 0)) ⊎ ((new ≡ old) × (number ≡ 13))

-- The search answered a query.
abbrev pub IsFoundUntil : List Target → Option ℕ → LatestSearch → LatestSearch → Type 0
IsFoundUntil targets asked old new = IsTimely targets asked new × IsSameLatest old new

-- A query on a handle: it holds no search for latest departures; or the search answered; or the query was refused, and everything is
-- unchanged. A valid query is not refused, unless memory is.
abbrev pub IsQueriedUntil : (LatestSearch → Type 0) → (ℕ → Type 0) → List Target → Option ℕ → Option LatestSearch → Option Content → Option Content → ℕ → Type 0
IsQueriedUntil Good IsBorne targets asked None old new number = (number ≡ 17) × (new ≡ old)
IsQueriedUntil Good IsBorne targets asked (Some search) old new number =
    (number ≡ 0 → (next : LatestSearch) × (latest_in new ≡ Some next) × IsFoundUntil targets asked search next) × (number ≢ 0 → new ≡ old) × (Good search → IsBorne number)

-- Lists of one length whose members make targets on the road.
abbrev pub AreGoodStops : List ℕ → List ℕ → LatestSearch → Type 0
AreGoodStops nodes times search = (length nodes ≡ length times) × AreStops (road_behind search).network.nodes (stops nodes times)

-- A node of the road, and a target on it.
abbrev pub IsGoodPair : ℕ → Target → LatestSearch → Type 0
IsGoodPair source target search = IsNode (road_behind search).network.nodes source × IsStop (road_behind search).network.nodes target

-- The last answer's latest departure of an asked node; none if it can't be left in time.
abbrev pub IsToldUntil : Option LatestSearch → ℕ → ℕ → ℕ → ℕ → Type 0
IsToldUntil None node old new number = (number ≡ 17) × (new ≡ old)
IsToldUntil (Some search) node old new number =
    (number ≡ 0 → IsNode search.search.answer.nodes node × IsAskedBy search.search.answer.target node × (time_of new ≡ departure_of search.search.answer node))
    × (number ≢ 0 → new ≡ old)
    × (IsNode search.search.answer.nodes node → IsAskedBy search.search.answer.target node → number ≡ 0)

-- The latest departures of all nodes, in their order, at the start of a list that was long enough.
abbrev pub AreToldUntil : Option LatestSearch → List ℕ → List ℕ → ℕ → Type 0
AreToldUntil None old new number = (number ≡ 17) × (new ≡ old)
AreToldUntil (Some search) old new number =
    (number ≡ 0 → (node : ℕ) → IsNode search.search.answer.nodes node → time_of (slice_index new (node - 1)) ≡ departure_of search.search.answer node)
    × (number ≢ 0 → new ≡ old)
    × (search.search.answer.nodes ≡ length old → 0 < length old → search.search.answer.target ≡ None → number ≡ 0)

-- The walk to a target of a node in the search's last answer.
abbrev pub walks_to : Option LatestSearch → ℕ → List ℕ → Type 0
walks_to None node walk = ⊥
walks_to (Some search) node walk = walk_to search.search.answer node ≡ Some walk

-- This many arcs at the start of a list are that walk.
abbrev pub IsWalkedTo : Option LatestSearch → ℕ → ℕ → List ℕ → Type 0
IsWalkedTo search node count out = (walk : List ℕ) × walks_to search node walk × (count ≡ length walk) × (take count out ≡ walk)
