-- The nodes that a report shows are asked.
use Rattle.std.proofs.Common.{◌≡◌, ◌∙◌, ℕ, Bool, List, Contains, subst}
use Rattle.std.specs.Prelude.{IfOk, Option, Some, None, Result, Ok, Err}
use Rattle.ea_road.specs.Queries.{Asking, IsAskedBy}
use Rattle.ea_road.specs.Roads.{Roads}
use Rattle.ea_search.specs.Answers.{Answered, HasArrivals, IsAnswer}
use Rattle.ea_asked.specs.Asked.{HasArrivalsAt, HasFoundAsked, IsAnswerAt}
use Rattle.ea_asked.proofs.Answering.{answer_at, arrivals_at}
use Rattle.ea_load.specs.declared.road.Road.{Road}
use Rattle.ea_load.specs.Posed.{times_on}
use Rattle.ea_search.specs.Listings.{Searched}
use Rattle.ea_batch.specs.Shown.{IsShownIn, IsShownOf}
use Rattle.ea_batch.specs.Solved.{HasFoundAt, HasFoundOn}

shown_by : (chosen : Option (List ℕ)) (target : Option ℕ) (node : ℕ) → IsShownOf chosen target node → IsAskedBy target node
shown_by chosen (Some target) node is = is
shown_by chosen None node is = tt

module _ (roads : Roads) (answers : ℕ → ℕ → ℕ → ℕ → Type 0) (chosen : Option (List ℕ)) (query : Asking) (answer : Answered) where
  -- an answer that is right at all asked nodes is right at those that are shown
  pub arrivals_shown : HasArrivals roads answers query answer → HasArrivalsAt roads answers query (IsShownIn chosen query) answer
  arrivals_shown = arrivals_at roads answers query (IsShownIn chosen query) (shown_by chosen query.target) answer

  pub answer_shown : IsAnswer roads answers query answer → IsAnswerAt roads answers query (IsShownIn chosen query) answer
  answer_shown = answer_at roads answers query (IsShownIn chosen query) (shown_by chosen query.target) answer

-- so what a search found for all asked nodes is found for those
pub found_shown : (chosen : Option (List ℕ)) (walks : Bool) (road : Road) (query : Asking) (search : Searched) → HasFoundOn walks road query search → HasFoundAt chosen walks road query search
found_shown chosen walks road query search found = record {
  solves = record {
    arrivals = arrivals_shown road.network (times_on road) chosen query search.answer found.arrivals;
    canonical = λ on. answer_shown road.network (times_on road) chosen query search.answer (found.canonical on);
  };
  ready = found.ready;
}

module _ (roads : Roads) (answers : ℕ → ℕ → ℕ → ℕ → Type 0) (nodes : List ℕ) (query : Asking) (all : query.target ≡ None) (answer : Answered) where
  is_chosen : (node : ℕ) → IsShownIn (Some nodes) query node → Contains nodes node
  is_chosen node is = subst (λ t. IsShownOf (Some nodes) t node) all is

  -- an answer that is right at the chosen nodes is right at those that are shown, if all nodes are asked
  pub arrivals_chosen : HasArrivalsAt roads answers query (Contains nodes) answer → HasArrivalsAt roads answers query (IsShownIn (Some nodes) query) answer
  arrivals_chosen has = record {
    nodes = has.nodes;
    target = has.target;
    least = λ node is_node is. has.least node is_node (is_chosen node is);
  }

  pub answer_chosen : IsAnswerAt roads answers query (Contains nodes) answer → IsAnswerAt roads answers query (IsShownIn (Some nodes) query) answer
  answer_chosen right = record {
    arrivals = arrivals_chosen right.arrivals;
    walks = right.walks;
    canonical = λ node walk is_node is. right.canonical node walk is_node (is_chosen node is);
    attains = λ node time walk is_node is. right.attains node time walk is_node (is_chosen node is);
  }

-- so what a search found at the chosen nodes is found for those
pub found_chosen : {E : Type 0} (road : Road) (nodes : List ℕ) (query : Asking) (all : query.target ≡ None) (on walks : Bool) (same : on ≡ walks) (result : Result Searched E) → IfOk result (HasFoundAsked road.network (times_on road) query (Contains nodes) on) → IfOk result (HasFoundAt (Some nodes) walks road query)
found_chosen road nodes query all on walks same (Ok search) found = record {
  solves = record {
    arrivals = arrivals_chosen road.network (times_on road) nodes query all search.answer found.arrivals;
    canonical = λ wanted. answer_chosen road.network (times_on road) nodes query all search.answer (found.answer (same ∙ wanted));
  };
  ready = (found.room.nodes, found.room.walks ∙ same);
}
found_chosen road nodes query all on walks same (Err refused) found = tt
