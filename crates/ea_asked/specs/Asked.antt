-- What an answer says of some nodes. It says nothing of the others.
use Rattle.std.specs.Prelude.{◌≡◌, ℕ, All, Bool, true, List, Some}
use Rattle.ea_road.specs.Roads.{Roads, IsNode}
use Rattle.ea_road.specs.Queries.{Asking}
use Rattle.ea_road.specs.Arrivals.{Attains, IsLeast, IsLeastAt}
use Rattle.ea_road.specs.Levels.{IsCanonical}
use Rattle.ea_search.specs.Answers.{Answered, arrival_of, walk_of}
use Rattle.ea_search.specs.Listings.{Searched}
use Rattle.ea_paths.specs.Searches.{AsksAll}

-- For each of these nodes its least arrival; none exactly if no walk reaches it within the horizon.
pub record HasArrivalsAt
    (roads : Roads)
    (answers : ℕ → ℕ → ℕ → ℕ → Type 0)
    (query : Asking)
    (asked : ℕ → Type 0)
    (answer : Answered)
    : Type 0 where
  pub nodes : answer.nodes ≡ roads.nodes
  pub target : answer.target ≡ query.target
  pub least : (node : ℕ) → IsNode roads.nodes node → asked node → IsLeast roads answers query.sources node (arrival_of answer node)

-- For each of these nodes that is reached, also its canonical walk over the least arrivals.
pub record IsAnswerAt
    (roads : Roads)
    (answers : ℕ → ℕ → ℕ → ℕ → Type 0)
    (query : Asking)
    (asked : ℕ → Type 0)
    (answer : Answered)
    : Type 0 where
  pub arrivals : HasArrivalsAt roads answers query asked answer
  pub walks : answer.walks ≡ true
  pub canonical : (node : ℕ) (walk : List ℕ) → IsNode roads.nodes node → asked node → walk_of answer node ≡ Some walk → IsCanonical roads answers query.sources (IsLeastAt roads answers query.sources) node walk
  pub attains : (node time : ℕ) (walk : List ℕ) → IsNode roads.nodes node → asked node → arrival_of answer node ≡ Some time → walk_of answer node ≡ Some walk → Attains roads answers query.sources walk node time

-- The arrays of a search are for this number of nodes, with room for walks or without.
pub record IsReservedFor (many : ℕ) (with_walks : Bool) (search : Searched) : Type 0 where
  pub nodes : search.nodes ≡ many
  pub walks : search.walks ≡ with_walks

-- A query for all nodes, the nodes at which it is asked, and arrays for the nodes of its network.
pub record CanFindAsked (roads : Roads) (classes : ℕ) (query : Asking) (asked : List ℕ) (search : Searched) : Type 0 where
  pub asks : AsksAll roads classes query
  pub are_nodes : All (IsNode roads.nodes) asked
  pub nodes : search.nodes ≡ roads.nodes

-- The answer at these nodes, with their walks if there is room for walks, in arrays for the nodes of the network.
pub record HasFoundAsked
    (roads : Roads)
    (answers : ℕ → ℕ → ℕ → ℕ → Type 0)
    (query : Asking)
    (asked : ℕ → Type 0)
    (walks : Bool)
    (search : Searched)
    : Type 0 where
  pub arrivals : HasArrivalsAt roads answers query asked search.answer
  pub answer : walks ≡ true → IsAnswerAt roads answers query asked search.answer
  pub room : IsReservedFor roads.nodes walks search
