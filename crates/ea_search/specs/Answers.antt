-- Answers as contracts see them, and what makes one the answer of a network, travel times and a query.
use Rattle.std.specs.Prelude.{◌≡◌, ◌==◌, ℕ, Bool, true, List, Option, Some, None, if◌then◌else◌}
use Rattle.ea_road.specs.declared.TheConstants.{NONE}
use Rattle.ea_road.specs.Roads.{Roads, IsNode}
use Rattle.ea_road.specs.Queries.{Asking, IsAsked}
use Rattle.ea_road.specs.Arrivals.{Attains, IsLeast, IsLeastAt}
use Rattle.ea_road.specs.Labels.{label_of, time_of}
use Rattle.ea_road.specs.Levels.{IsCanonical}
use Rattle.ea_search.specs.declared.link.Link.{Link}
use Rattle.ea_search.specs.Links.{linked_walk}

-- The labels and links that determine the arrivals and walks of an answer, and the target of a pair query. An
-- answer may have no walks.
pub record Answered : Type 0 where
  pub nodes : ℕ
  pub target : Option ℕ
  pub labels : List ℕ
  pub links : List Link
  pub walks : Bool

abbrev pub answer_of : ℕ → Option ℕ → List ℕ → List Link → Bool → Answered
answer_of nodes target labels links walks = record { nodes = nodes; target = target; labels = labels; links = links; walks = walks }

-- The arrival that an answer gives for a node.
abbrev pub arrival_of : Answered → ℕ → Option ℕ
arrival_of answer node = time_of (label_of answer.labels node)

-- The walk that it gives for a node.
abbrev pub walk_of : Answered → ℕ → Option (List ℕ)
walk_of answer node = if label_of answer.labels node == NONE then None else Some (linked_walk answer.links node)

-- The answer of a network, travel times and a query: for each asked node its least arrival; none exactly if
-- no walk reaches it within the horizon.
pub record HasArrivals
    (roads : Roads)
    (answers : ℕ → ℕ → ℕ → ℕ → Type 0)
    (query : Asking)
    (answer : Answered)
    : Type 0 where
  pub nodes : answer.nodes ≡ roads.nodes
  pub target : answer.target ≡ query.target
  pub least : (node : ℕ) → IsNode roads.nodes node → IsAsked query node → IsLeast roads answers query.sources node (arrival_of answer node)

-- For each asked node that is reached, also its canonical walk over the least arrivals.
pub record IsAnswer
    (roads : Roads)
    (answers : ℕ → ℕ → ℕ → ℕ → Type 0)
    (query : Asking)
    (answer : Answered)
    : Type 0 where
  pub arrivals : HasArrivals roads answers query answer
  pub walks : answer.walks ≡ true
  pub canonical : (node : ℕ) (walk : List ℕ) → IsNode roads.nodes node → IsAsked query node → walk_of answer node ≡ Some walk → IsCanonical roads answers query.sources (IsLeastAt roads answers query.sources) node walk
  pub attains : (node time : ℕ) (walk : List ℕ) → IsNode roads.nodes node → IsAsked query node → arrival_of answer node ≡ Some time → walk_of answer node ≡ Some walk → Attains roads answers query.sources walk node time
