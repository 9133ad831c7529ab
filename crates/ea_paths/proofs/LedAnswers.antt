-- Labels that were led to the target of a query, and their links, make an answer.
use Rattle.std.proofs.Common.{◌≡◌, ◌≢◌, ◌==◌, ℕ, ◌<◌, Bool, true, false, eqb-true, Option, Some, None, List, length, refl, sym, subst, arith}
use Rattle.std.specs.Prelude.{if◌then◌else◌}
use Rattle.ea_road.specs.declared.TheConstants.{NONE}
use Rattle.ea_travel_times.specs.Answers.{IsFifo}
use Rattle.ea_road.specs.Roads.{Roads, IsNode, IsNetwork}
use Rattle.ea_road.specs.Queries.{Asking, IsAsked, IsAskedBy, IsProblem}
use Rattle.ea_road.specs.Arrivals.{IsLeast, IsLeastAt}
use Rattle.ea_road.specs.Labels.{IsLabel, label_of, time_of}
use Rattle.ea_road.specs.Levels.{IsCanonical}
use Rattle.ea_road.proofs.Walked.{least_attains}
use Rattle.ea_search.specs.declared.link.Link.{Link}
use Rattle.ea_search.specs.declared.link.TheConstants.{NO_LEVEL}
use Rattle.ea_search.specs.Answers.{HasArrivals, IsAnswer}
use Rattle.ea_search.specs.Links.{AreLinks, link, linked_walk}
use Rattle.ea_goal.specs.Led.{IsLedTo}
use Rattle.ea_goal.proofs.Walks.{canonical_over_least, chain_to_target, least}
use Rattle.ea_paths.specs.Stored.{IsStoredAnswer}
use Rattle.ea_paths.proofs.Answered.{followable, gives}

-- a label that isn't NONE is a least arrival
least_at : (roads : Roads) (answers : ℕ → ℕ → ℕ → ℕ → Type 0) (query : Asking) (node label : ℕ) → label ≢ NONE → IsLeast roads answers query.sources node (time_of label) → IsLeastAt roads answers query.sources node label
least_at roads answers query node label some is =
    let given : time_of label ≡ Some label = by_test (label == NONE) refl in
    subst (λ (t : Option ℕ). IsLeast roads answers query.sources node t) given is
  where
    by_test : (none : Bool) → (label == NONE) ≡ none → (if none then None else Some label) ≡ Some label
    by_test true same = absurd (some (eqb-true label NONE same))
    by_test false differs = refl

module _
    (roads : Roads)
    (answers : ℕ → ℕ → ℕ → ℕ → Type 0)
    (classes : ℕ)
    (query : Asking)
    (target : ℕ)
    (asked : query.target ≡ Some target)
    (network : IsNetwork roads)
    (problem : IsProblem roads classes query)
    (fifo : IsFifo answers classes)
    (table : List ℕ)
    (places : length table ≡ roads.nodes)
    (led : IsLedTo roads answers query.sources target (label_of table))
  where
    abbrev label : ℕ → ℕ
    label = label_of table

    is_target : IsNode roads.nodes target
    is_target = problem.target target asked

    -- the target alone is asked
    is_it : (node : ℕ) → IsAsked query node → node ≡ target
    is_it node is = subst (λ (t : Option ℕ). IsAskedBy t node) asked is

    target_least : IsLeast roads answers query.sources target (time_of (label target))
    target_least = least roads answers classes query.sources target label network problem.classed fifo problem.sources problem.departures is_target led

    pub led_has_arrivals : (links : List Link) (walks : Bool) → HasArrivals roads answers query (record { nodes = roads.nodes; target = query.target; labels = table; links = links; walks = walks })
    led_has_arrivals links walks = record {
      nodes = refl;
      target = refl;
      least = λ node is_node is. subst (λ n. IsLeast roads answers query.sources n (time_of (label n))) (sym (is_it node is)) target_least;
    }

    module _ (links : List Link) (are : AreLinks roads answers query.sources (IsLabel label) links) where
      target_linked : label target ≢ NONE → (link links target).level < NO_LEVEL
      target_linked some =
          let chain = chain_to_target roads answers classes query.sources target label network problem.classed fifo problem.sources problem.departures is_target led some in
          let each = are.each target is_target in
          let bound = each.low in
          let level : (link links target).level ≢ NO_LEVEL = λ none. each.without none chain.0 chain.1 in
          omega arith

      pub led_stored : IsStoredAnswer (record { nodes = roads.nodes; target = query.target; labels = table; links = links; walks = true })
      led_stored = record {
        labels = places;
        links = λ same. are.places;
        followable = λ same. followable roads answers query.sources label network links are;
        linked = λ same node is_node is some.
            let it = is_it node is in
            subst (λ n. (link links n).level < NO_LEVEL) (sym it) (target_linked (subst (λ n. label n ≢ NONE) it some));
      }

      canonical : label target ≢ NONE → IsCanonical roads answers query.sources (IsLeastAt roads answers query.sources) target (linked_walk links target)
      canonical some =
          let there = target_linked some in
          canonical_over_least roads answers classes query.sources target label network problem.classed fifo problem.sources problem.departures is_target led (linked_walk links target) some ((are.each target is_target).walk (omega arith))

      canonical_at : (node : ℕ) → node ≡ target → label node ≢ NONE → IsCanonical roads answers query.sources (IsLeastAt roads answers query.sources) node (linked_walk links node)
      canonical_at node it some = subst (λ n. IsCanonical roads answers query.sources (IsLeastAt roads answers query.sources) n (linked_walk links n)) (sym it) (canonical (subst (λ n. label n ≢ NONE) it some))

      pub led_is_answer : IsAnswer roads answers query (record { nodes = roads.nodes; target = query.target; labels = table; links = links; walks = true })
      led_is_answer = record {
        arrivals = led_has_arrivals links true;
        walks = refl;
        canonical = λ node walk is_node is found.
            let said = gives (label node) (linked_walk links node) walk found in
            subst (λ w. IsCanonical roads answers query.sources (IsLeastAt roads answers query.sources) node w) said.same (canonical_at node (is_it node is) said.some);
        attains = λ node time walk is_node is arrival found.
            let said = gives (label node) (linked_walk links node) walk found in
            let at = gives (label node) (label node) time arrival in
            let it = is_it node is in
            let best = subst (λ n. IsLeastAt roads answers query.sources n (label n)) (sym it) (least_at roads answers query target (label target) (subst (λ n. label n ≢ NONE) it said.some) target_least) in
            least_attains roads answers classes query node time walk (subst (λ t. IsLeastAt roads answers query.sources node t) at.same best) (subst (λ w. IsCanonical roads answers query.sources (IsLeastAt roads answers query.sources) node w) said.same (canonical_at node it said.some));
      }
