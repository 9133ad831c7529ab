-- The outcomes of the calls on searches.
use Rattle.std.specs.Prelude.{◌≡◌, ◌≢◌, ◌⊎◌, ℕ, ◌<◌, Bool, List, [], ◌∷◌, length, take, slice_index, ◌-◌, Option, Some, None}
use Rattle.std.specs.List.{IsAmong}
use Rattle.ea_road.specs.declared.source.Source.{Source}
use Rattle.ea_road.specs.Labels.{time_of}
use Rattle.ea_road.specs.Roads.{IsNode}
use Rattle.ea_road.specs.Queries.{Asking, IsAskedBy}
use Rattle.ea_search.specs.Answers.{Answered, arrival_of, walk_of}
use Rattle.ea_load.specs.declared.road.Road.{Road}
use Rattle.ea_capi.specs.declared.handle.content.Content.{Content}
use Rattle.ea_capi.specs.declared.handle.content.Session.{Session}
use Rattle.ea_capi.specs.Sessions.{IsAnswered, IsSame, IsStart, starts}
use Rattle.ea_capi.specs.States.{road_of, session_in}

-- A new search on the road, with room for walks or without; or the handle is unchanged, and memory was
-- refused.
abbrev pub IsBegun : Option Road → Bool → Option Content → Option Content → ℕ → Type 0
IsBegun None walks old new number = (number ≡ 16) × (new ≡ old)
IsBegun (Some road) walks old new number =
    ((session : Session) × (session_in new ≡ Some session) × (road_of session ≡ road) × (session.walks ≡ walks) × (number ≡ 0)) ⊎ ((new ≡ old) × (number ≡ 13))

-- The search answered a query; or the query was refused, and the search is unchanged.
abbrev pub IsFound : Asking → Session → Session → ℕ → Type 0
IsFound query old new number = IsAnswered query new × IsSame old new × (number ≡ 0)

-- Why a pair is refused: its source or target is no node of the road, or the departure is beyond the horizon.
abbrev pub IsPair : Road → Source → ℕ → Type 0
IsPair road source target = IsStart road.network.nodes source × IsNode road.network.nodes target

-- A query on a handle: it holds no search; or the search answered; or the query was refused, and everything
-- is unchanged. A valid query is not refused.
abbrev pub IsQueried : (Session → Type 0) → (ℕ → Type 0) → Asking → Option Session → Option Content → Option Content → ℕ → Type 0
IsQueried Good IsBorne query None old new number = (number ≡ 17) × (new ≡ old)
IsQueried Good IsBorne query (Some session) old new number =
    (number ≡ 0 → (next : Session) × (session_in new ≡ Some next) × IsFound query session next number) × (number ≢ 0 → new ≡ old) × (Good session → IsBorne number)

-- The call succeeded.
abbrev pub IsDone : ℕ → Type 0
IsDone number = number ≡ 0

-- The call succeeded, or memory was refused.
abbrev pub IsDoneOrScarce : ℕ → Type 0
IsDoneOrScarce number = (number ≡ 0) ⊎ (number ≡ 13)

-- Each source is valid for this number of nodes.
pub record AreStarts (nodes : ℕ) (sources : List Source) : Type 0 where
  pub each : (source : Source) → IsAmong sources source → IsStart nodes source

-- A query from these nodes at these departures to all nodes.
abbrev pub from_starts : List ℕ → List ℕ → Asking
from_starts nodes departures = record { sources = starts nodes departures; target = None }

-- A query from one source to one target.
abbrev pub from_to : ℕ → ℕ → ℕ → Asking
from_to source departure target = record { sources = record { node = source; departure = departure } ∷ []; target = Some target }

-- Lists of one length whose members make sources of the road.
abbrev pub AreGoodStarts : List ℕ → List ℕ → Session → Type 0
AreGoodStarts nodes departures session = (length nodes ≡ length departures) × AreStarts (road_of session).network.nodes (starts nodes departures)

-- The last answer's arrival at an asked node; none if no walk reaches it within the horizon.
abbrev pub IsTold : Option Session → ℕ → ℕ → ℕ → ℕ → Type 0
IsTold None node old new number = (number ≡ 17) × (new ≡ old)
IsTold (Some session) node old new number =
    (number ≡ 0 → IsNode session.search.answer.nodes node × IsAskedBy session.search.answer.target node × (time_of new ≡ arrival_of session.search.answer node))
    × (number ≢ 0 → new ≡ old)
    × (IsNode session.search.answer.nodes node → IsAskedBy session.search.answer.target node → number ≡ 0)

-- The arrivals at all nodes, in their order, at the start of a list that was long enough.
abbrev pub AreTold : Option Session → List ℕ → List ℕ → ℕ → Type 0
AreTold None old new number = (number ≡ 17) × (new ≡ old)
AreTold (Some session) old new number =
    (number ≡ 0 → (node : ℕ) → IsNode session.search.answer.nodes node → time_of (slice_index new (node - 1)) ≡ arrival_of session.search.answer node)
    × (number ≢ 0 → new ≡ old)
    × (session.search.answer.nodes ≡ length old → 0 < length old → session.search.answer.target ≡ None → number ≡ 0)

-- Why there is no walk of a node: it isn't asked for, or not reached, or there is no room for walks, or
-- memory was refused.
abbrev pub IsWhyNot : Answered → ℕ → ℕ → Type 0
IsWhyNot answer node number = (number ≢ 0) × (number ≡ 22 → walk_of answer node ≡ None)

-- The walk of a node in the search's last answer.
abbrev pub walks_told : Option Session → ℕ → List ℕ → Type 0
walks_told None node walk = ⊥
walks_told (Some session) node walk = walk_of session.search.answer node ≡ Some walk

-- This many arcs at the start of a list are that walk.
abbrev pub IsWalked : Option Session → ℕ → ℕ → List ℕ → Type 0
IsWalked session node count out = (walk : List ℕ) × walks_told session node walk × (count ≡ length walk) × (take count out ≡ walk)

-- A new search on the road, if there is one, with room for walks or without.
abbrev pub IsNew : Option Road → Bool → Option Session → Type 0
IsNew None walks None = Unit {0}
IsNew None walks (Some session) = ⊥
IsNew (Some road) walks None = ⊥
IsNew (Some road) walks (Some session) = (road_of session ≡ road) × (session.walks ≡ walks)

-- There is a road.
abbrev pub IsThere : Option Road → Type 0
IsThere None = ⊥
IsThere (Some road) = Unit {0}

-- The handle holds this search; or it is unchanged, and memory was refused.
pub data IsHeld (session : Session) (old new : Option Content) (number : ℕ) : Type 0 where
  held : session_in new ≡ Some session → number ≡ 0 → IsHeld session old new number
  no_memory : new ≡ old → number ≡ 13 → IsHeld session old new number
