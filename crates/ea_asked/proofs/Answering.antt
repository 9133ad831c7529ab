-- Labels that were led to asked nodes, and links over them, make an answer that is right at these nodes.
use Rattle.std.proofs.Common.{◌≡◌, ◌≢◌, ◌==◌, ℕ, ◌<◌, Bool, true, false, Some, None, List, length, Contains, refl, sym, subst, ◌∙◌, inl, inr, arith}
use Rattle.std.specs.Prelude.{All, IfOk, Ok, Err, Result, if◌then◌else◌, slice_index}
use Rattle.std.specs.declared.alloc.AllocError.{AllocError}
use Rattle.std.proofs.lemmas.List.{get_or_default}
use Rattle.std.proofs.lemmas.List.Elements.{All-contains}
use Rattle.ea_road.specs.declared.TheConstants.{NONE}
use Rattle.ea_travel_times.specs.Answers.{IsFifo}
use Rattle.ea_road.specs.Roads.{Roads, IsNode, IsNetwork}
use Rattle.ea_road.specs.Queries.{Asking, IsAsked, IsAskedBy, IsProblem}
use Rattle.ea_road.specs.Arrivals.{IsLeast}
use Rattle.ea_road.specs.Labels.{IsLabel, label_of, time_of}
use Rattle.ea_search.specs.declared.link.Link.{Link}
use Rattle.ea_search.specs.declared.link.TheConstants.{NO_LEVEL}
use Rattle.ea_search.specs.Answers.{Answered, HasArrivals, IsAnswer}
use Rattle.ea_search.specs.Links.{AreLinks, link, linked_walk}
use Rattle.ea_search.specs.Listings.{Searched}
use Rattle.ea_search.specs.Underway.{bound_of}
use Rattle.ea_search.proofs.Entries.{bound_of_label}
use Rattle.ea_goal.proofs.Walks.{chain_to_target}
use Rattle.ea_paths.specs.Stored.{IsStoredAnswer}
use Rattle.ea_paths.proofs.Answered.{followable}
use Rattle.ea_paths.proofs.LedAnswers.{led_has_arrivals, led_is_answer}
use Rattle.ea_asked.specs.Asked.{HasArrivalsAt, HasFoundAsked, IsAnswerAt}
use Rattle.ea_asked.specs.Seeking.{AreLedTo}
use Rattle.ea_asked.specs.Stores.{Shows}

-- an answer that is right at all nodes that a query asks is right at some of them
module _ (roads : Roads) (answers : ℕ → ℕ → ℕ → ℕ → Type 0) (query : Asking) (some : ℕ → Type 0) (are_asked : (node : ℕ) → some node → IsAsked query node) (answer : Answered) where
  pub arrivals_at : HasArrivals roads answers query answer → HasArrivalsAt roads answers query some answer
  arrivals_at has = record {
    nodes = has.nodes;
    target = has.target;
    least = λ node is_node there. has.least node is_node (are_asked node there);
  }

  pub answer_at : IsAnswer roads answers query answer → IsAnswerAt roads answers query some answer
  answer_at is = record {
    arrivals = arrivals_at is.arrivals;
    walks = is.walks;
    canonical = λ node walk is_node there. is.canonical node walk is_node (are_asked node there);
    attains = λ node time walk is_node there. is.attains node time walk is_node (are_asked node there);
  }

-- what is right at some nodes is right at fewer of them
module _ (roads : Roads) (answers : ℕ → ℕ → ℕ → ℕ → Type 0) (query : Asking) (some fewer : ℕ → Type 0) (are_some : (node : ℕ) → fewer node → some node) where
  fewer_arrivals : (answer : Answered) → HasArrivalsAt roads answers query some answer → HasArrivalsAt roads answers query fewer answer
  fewer_arrivals answer has = record {
    nodes = has.nodes;
    target = has.target;
    least = λ node is_node there. has.least node is_node (are_some node there);
  }

  fewer_answers : (answer : Answered) → IsAnswerAt roads answers query some answer → IsAnswerAt roads answers query fewer answer
  fewer_answers answer is = record {
    arrivals = fewer_arrivals answer is.arrivals;
    walks = is.walks;
    canonical = λ node walk is_node there. is.canonical node walk is_node (are_some node there);
    attains = λ node time walk is_node there. is.attains node time walk is_node (are_some node there);
  }

  pub fewer_found : (walks : Bool) (result : Result Searched AllocError) → IfOk result (HasFoundAsked roads answers query some walks) → IfOk result (HasFoundAsked roads answers query fewer walks)
  fewer_found walks (Ok search) found = record {
    arrivals = fewer_arrivals search.answer found.arrivals;
    answer = λ on. fewer_answers search.answer (found.answer on);
    room = found.room;
  }
  fewer_found walks (Err refused) found = tt

-- all nodes are asked
pub all_asked : (query : Asking) → query.target ≡ None → (node : ℕ) → IsAsked query node
all_asked query all node = subst (λ t. IsAskedBy t node) (sym all) tt

module _
    (roads : Roads)
    (answers : ℕ → ℕ → ℕ → ℕ → Type 0)
    (classes : ℕ)
    (query : Asking)
    (network : IsNetwork roads)
    (problem : IsProblem roads classes query)
    (fifo : IsFifo answers classes)
    (table asked labels : List ℕ)
    (places : length table ≡ roads.nodes)
    (are : All (IsNode roads.nodes) asked)
    (led : AreLedTo roads answers query.sources asked (label_of table))
    (shows : Shows table asked (length asked) labels)
  where
    -- an asked node has the label of the table
    same_label : (node : ℕ) → Contains asked node → label_of labels node ≡ label_of table node
    same_label node there =
        let is = All-contains (IsNode roads.nodes) asked node are there in
        let at : slice_index asked there.0 ≡ node = sym (get_or_default asked there.0 node 0 there.1) ∙ there.2 in
        let same : bound_of labels node ≡ bound_of table node = subst (λ n. bound_of labels n ≡ bound_of table n) at (shows.each there.0 there.1) in
        let inside : IsNode (length table) node = record { from_one = is.from_one; to_last = omega (arith, is.to_last, places) } in
        let written : IsNode (length labels) node = record { from_one = is.from_one; to_last = omega (arith, is.to_last, places, shows.places) } in
        sym (bound_of_label labels node written) ∙ same ∙ bound_of_label table node inside

    -- no other node has a label
    is_asked : (node : ℕ) → IsNode roads.nodes node → label_of labels node ≢ NONE → Contains asked node
    is_asked node is some = elim (shows.others node) [
      | inl none ↦
          let written : IsNode (length labels) node = record { from_one = is.from_one; to_last = omega (arith, is.to_last, places, shows.places) } in
          absurd (some (sym (bound_of_label labels node written) ∙ none))
      | inr there ↦ there.0
    ]

    -- the query for one node
    abbrev pair : ℕ → Asking
    pair node = record { sources = query.sources; target = Some node }

    pair_problem : (node : ℕ) → IsNode roads.nodes node → IsProblem roads classes (pair node)
    pair_problem node is = record {
      classed = problem.classed;
      sources = problem.sources;
      departures = problem.departures;
      target = λ other same. (let it : node ≡ other = cc in subst (IsNode roads.nodes) it is);
    }

    abbrev answer : List Link → Bool → Answered
    answer links walks = record { nodes = roads.nodes; target = None; labels = labels; links = links; walks = walks }

    pub has_arrivals_at : query.target ≡ None → (links : List Link) (walks : Bool) → HasArrivalsAt roads answers query (Contains asked) (answer links walks)
    has_arrivals_at all links walks = record {
      nodes = refl;
      target = sym all;
      least = λ node is there.
          let alone = led_has_arrivals roads answers classes (pair node) node refl network (pair_problem node is) fifo table places (led node there) links walks in
          subst (λ label. IsLeast roads answers query.sources node (time_of label)) (sym (same_label node there)) (alone.least node is refl);
    }

    pub stored_without : (links : List Link) → IsStoredAnswer (answer links false)
    stored_without links = record {
      labels = shows.places ∙ places;
      links = λ same. cc;
      followable = λ same. cc;
      linked = λ same. cc;
    }

    module _ (links : List Link) (linked : AreLinks roads answers query.sources (IsLabel (label_of table)) links) where
      level : (node : ℕ) → IsNode roads.nodes node → Contains asked node → label_of labels node ≢ NONE → (link links node).level < NO_LEVEL
      level node is there some =
          let chain = chain_to_target roads answers classes query.sources node (label_of table) network problem.classed fifo problem.sources problem.departures is (led node there) (λ none. some (same_label node there ∙ none)) in
          let each = linked.each node is in
          let bound = each.low in
          let has : (link links node).level ≢ NO_LEVEL = λ none. each.without none chain.0 chain.1 in
          omega arith

      pub stored_with : IsStoredAnswer (answer links true)
      stored_with = record {
        labels = shows.places ∙ places;
        links = λ same. linked.places;
        followable = λ same. followable roads answers query.sources (label_of table) network links linked;
        linked = λ same node is all some. level node is (is_asked node is some) some;
      }

      -- the answer to the query for one asked node
      alone : (node : ℕ) → IsNode roads.nodes node → Contains asked node → IsAnswer roads answers (pair node) (record { nodes = roads.nodes; target = Some node; labels = table; links = links; walks = true })
      alone node is there = led_is_answer roads answers classes (pair node) node refl network (pair_problem node is) fifo table places (led node there) links linked

      pub is_answer_at : query.target ≡ None → IsAnswerAt roads answers query (Contains asked) (answer links true)
      is_answer_at all = record {
        arrivals = has_arrivals_at all links true;
        walks = refl;
        canonical = λ node walk is there found.
            (alone node is there).canonical node walk is refl (subst (λ label. (if label == NONE then None else Some (linked_walk links node)) ≡ Some walk) (same_label node there) found);
        attains = λ node time walk is there arrival found.
            (alone node is there).attains node time walk is refl (subst (λ label. time_of label ≡ Some time) (same_label node there) arrival) (subst (λ label. (if label == NONE then None else Some (linked_walk links node)) ≡ Some walk) (same_label node there) found);
      }
