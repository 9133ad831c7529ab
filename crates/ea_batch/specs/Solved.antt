-- The answer of a problem on a road.
use Rattle.std.specs.Prelude.{◌≡◌, ◌≤◌, ℕ, Bool, true, IfSome, List, Option, length}
use Rattle.ea_base.specs.declared.limits.TheConstants.{MOST_STARTS}
use Rattle.ea_road.specs.Queries.{Asking, IsProblem}
use Rattle.ea_road.specs.Roads.{Roads}
use Rattle.ea_batch.specs.declared.searching.Aids.{Aids}
use Rattle.ea_batch.specs.declared.searching.Searching.{Searching}
use Rattle.ea_batch.specs.declared.searching.Searching.TheVariants as searching
use Rattle.ea_layout.specs.declared.layout.Layout.{Layout}
use Rattle.ea_layout.specs.Laid.{IsPreparedLaid}
use Rattle.ea_layout.specs.Orders.{LaysOut}
use Rattle.ea_load.specs.declared.road.Road.{Road}
use Rattle.ea_search.specs.Answers.{Answered, HasArrivals, IsAnswer}
use Rattle.ea_search.specs.Listings.{Searched}
use Rattle.ea_load.specs.Posed.{times_on}
use Rattle.ea_report.specs.Asked.{AreChosen, Shape}
use Rattle.ea_asked.specs.Asked.{HasArrivalsAt, IsAnswerAt}
use Rattle.ea_batch.specs.Shown.{IsShownIn}

-- The answer has the least arrivals of the query on the road.
abbrev pub ArrivesOn : Road → Asking → Answered → Type 0
ArrivesOn road query answer = HasArrivals road.network (times_on road) query answer

-- It also has the canonical walks.
abbrev pub AnswersOn : Road → Asking → Answered → Type 0
AnswersOn road query answer = IsAnswer road.network (times_on road) query answer

-- The answer has the least arrivals of the nodes that a report of the query shows, if these are chosen.
abbrev pub ArrivesAt : Option (List ℕ) → Road → Asking → Answered → Type 0
ArrivesAt chosen road query answer = HasArrivalsAt road.network (times_on road) query (IsShownIn chosen query) answer

-- It also has their canonical walks.
abbrev pub AnswersAt : Option (List ℕ) → Road → Asking → Answered → Type 0
AnswersAt chosen road query answer = IsAnswerAt road.network (times_on road) query (IsShownIn chosen query) answer

-- The arrays of a search, on the road as it was given or laid out, or for some nodes.
abbrev pub searched : Searching → Searched
searched (searching.Plain search) = search
searched (searching.Laid search) = search
searched (searching.Asked search) = search

-- They fit the road's nodes, with room for walks if they are asked for.
abbrev pub Serves : Roads → Bool → Searching → Type 0
Serves roads walks search = ((searched search).nodes ≡ roads.nodes) × ((searched search).walks ≡ walks)

-- A layout is one of the road, and so is its preparation, if it has one.
pub record IsLaidOut (road : Road) (layout : Layout) : Type 0 where
  pub laid_out : LaysOut road.network layout
  pub prepared : IsPreparedLaid (times_on road) layout

-- What searches may use is of the road.
pub record AreAidsOn (road : Road) (aids : Aids) : Type 0 where
  pub layout : IfSome aids.layout (λ l. IsLaidOut road l.now)

-- The same of arrays that are known to be on the road as it was given, or laid out.
abbrev pub IsReady : Roads → Bool → Searched → Type 0
IsReady roads walks search = (search.nodes ≡ roads.nodes) × (search.walks ≡ walks)

-- A problem, and arrays that fit the road for the next search.
pub record MaySearch (road : Road) (walks : Bool) (query : Asking) (last : Option Searching) : Type 0 where
  pub problem : IsProblem road.network (length road.times.tables.list.items) query
  pub serves : IfSome last (Serves road.network walks)

-- The answer has what a report of the query shows: least arrivals and, with walks, canonical walks.
pub record Solves (chosen : Option (List ℕ)) (walks : Bool) (road : Road) (query : Asking) (answer : Answered) : Type 0 where
  pub arrivals : ArrivesAt chosen road query answer
  pub canonical : walks ≡ true → AnswersAt chosen road query answer

-- A search found that.
pub record HasFoundAt (chosen : Option (List ℕ)) (walks : Bool) (road : Road) (query : Asking) (search : Searched) : Type 0 where
  pub solves : Solves chosen walks road query search.answer
  pub ready : IsReady road.network walks search

-- A search found the least arrivals of all nodes that are asked for and, with walks, their canonical walks.
pub record HasFoundOn (walks : Bool) (road : Road) (query : Asking) (search : Searched) : Type 0 where
  pub arrivals : ArrivesOn road query search.answer
  pub canonical : walks ≡ true → AnswersOn road query search.answer
  pub ready : IsReady road.network walks search

-- The nodes that a report shows are nodes of the network, and no more than a file has.
pub record IsShown (roads : Roads) (shape : Shape) : Type 0 where
  pub chosen : AreChosen roads.nodes shape.chosen
  pub few : IfSome shape.chosen (λ nodes. length nodes ≤ MOST_STARTS)
