-- The outcomes of the calls for some nodes.
use Rattle.std.specs.Prelude.{◌≡◌, ◌≢◌, ◌⊎◌, ℕ, ◌<◌, All, Contains, IfSome, List, length, slice_index, Option, Some, None}
use Rattle.ea_road.specs.Labels.{time_of}
use Rattle.ea_road.specs.Roads.{IsNode}
use Rattle.ea_road.specs.Queries.{Asking}
use Rattle.ea_search.specs.Answers.{arrival_of}
use Rattle.ea_asked.specs.Asked.{HasArrivalsAt}
use Rattle.ea_capi.specs.declared.handle.content.AskedNodes.{AskedNodes}
use Rattle.ea_capi.specs.declared.handle.content.Content.{Content}
use Rattle.ea_capi.specs.declared.handle.content.Session.{Session}
use Rattle.ea_capi.specs.Sessions.{answers_on}
use Rattle.ea_capi.specs.States.{road_of, session_in}
use Rattle.ea_capi.specs.Calls.{AreGoodStarts, IsDoneOrScarce}

-- A call that succeeded made a search that was asked for no nodes yet.
abbrev pub IsUnasked : Option Session → ℕ → Type 0
IsUnasked made number = number ≡ 0 → IfSome made (λ session. session.asked ≡ None)

-- The search has the least arrivals of a query at these nodes. Its last answer to other queries is unchanged.
pub record IsFoundAt (query : Asking) (list : List ℕ) (old new : Session) : Type 0 where
  pub share : new.share ≡ old.share
  pub search : new.search ≡ old.search
  pub walks : new.walks ≡ old.walks
  pub asked : AskedNodes
  pub there : new.asked ≡ Some asked
  pub these : asked.list.items ≡ list
  pub arrivals : HasArrivalsAt (road_of new).network (answers_on (road_of new)) query (Contains list) asked.search.answer

-- The query was refused: all is unchanged; or memory was refused, and the last answer at some nodes is lost.
pub record IsLeft (number : ℕ) (old new : Session) : Type 0 where
  pub share : new.share ≡ old.share
  pub search : new.search ≡ old.search
  pub walks : new.walks ≡ old.walks
  pub asked : (new.asked ≡ old.asked) ⊎ ((number ≡ 13) × (new.asked ≡ None))

-- Starts on the road and nodes of the road.
abbrev pub AreGoodAsked : List ℕ → List ℕ → List ℕ → Session → Type 0
AreGoodAsked nodes departures list session = AreGoodStarts nodes departures session × All (IsNode (road_of session).network.nodes) list

-- A query for these nodes on a handle: it holds no search; or the search answered; or the query was refused. A valid query is not refused,
-- unless memory is.
abbrev pub IsAskedFor : List ℕ → List ℕ → List ℕ → Asking → Option Session → Option Content → Option Content → ℕ → Type 0
IsAskedFor nodes departures list query None old new number = (number ≡ 17) × (new ≡ old)
IsAskedFor nodes departures list query (Some session) old new number =
    (number ≡ 0 → (next : Session) × (session_in new ≡ Some next) × IsFoundAt query list session next)
    × (number ≢ 0 → (next : Session) × (session_in new ≡ Some next) × IsLeft number session next)
    × (AreGoodAsked nodes departures list session → IsDoneOrScarce number)

-- The arrivals of the last answer at some nodes, in the order in which these were asked for.
abbrev pub AreAnswers : Option AskedNodes → List ℕ → List ℕ → ℕ → Type 0
AreAnswers None old new number = (number ≡ 20) × (new ≡ old)
AreAnswers (Some asked) old new number =
    (number ≡ 0 → (length new ≡ length asked.list.items) × ((place : ℕ) → place < length new → time_of (slice_index new place) ≡ arrival_of asked.search.answer (slice_index asked.list.items place)))
    × (number ≢ 0 → new ≡ old)
    × (length old ≡ length asked.list.items → number ≡ 0)

abbrev pub AreToldAt : Option Session → List ℕ → List ℕ → ℕ → Type 0
AreToldAt None old new number = (number ≡ 17) × (new ≡ old)
AreToldAt (Some session) old new number = AreAnswers session.asked old new number
