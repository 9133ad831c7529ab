-- An answer to the turned question has the latest departures.
use Rattle.std.proofs.Common.{◌≡◌, ℕ, ◌-◌, ◌≤◌, Bool, true, List, refl, subst}
use Rattle.std.specs.Prelude.{◌↔◌, Option, Some, None, reverse}
use Rattle.ea_base.specs.declared.limits.TheConstants.{HORIZON}
use Rattle.ea_travel_times.specs.TurnedTimes.{IsTurned}
use Rattle.ea_road.specs.declared.source.Source.{Source}
use Rattle.ea_road.specs.declared.target.Target.{Target}
use Rattle.ea_road.specs.Arrivals.{IsLeast, IsLeastAt}
use Rattle.ea_road.specs.LatestDepartures.{AttainsInTime, IsCanonicalTo, IsLatestAt, IsLatestDeparture, turned_targets}
use Rattle.ea_road.specs.Levels.{IsCanonical}
use Rattle.ea_road.specs.Queries.{Asking, IsAskedBy}
use Rattle.ea_road.specs.Roads.{Roads, IsNode}
use Rattle.ea_road.specs.Turned.{turned_roads}
use Rattle.ea_search.specs.Answers.{Answered, HasArrivals, IsAnswer, arrival_of, walk_of}
use Rattle.ea_capi.specs.Latest.{AreLatest, departure_of, turned_back, walk_back, walk_to}

-- a walk to a target is a walk of the turned question, reversed
walk_of_turned : (found : Option (List ℕ)) (walk : List ℕ) → walk_back found ≡ Some walk → (turned : List ℕ) × (found ≡ Some turned) × (reverse turned ≡ walk)
walk_of_turned None walk is = cc
walk_of_turned (Some turned) walk is = (turned, refl, cc)

module _
    (roads : Roads)
    (answers : ℕ → ℕ → ℕ → ℕ → Type 0)
    (targets : List Target)
    (time_law : (node time : ℕ) → time ≤ HORIZON → IsLeast (turned_roads roads) (IsTurned answers) (turned_targets targets) node (Some time) ↔ IsLatestDeparture roads answers targets node (Some (HORIZON - time)))
    (none_law : (node : ℕ) → IsLeast (turned_roads roads) (IsTurned answers) (turned_targets targets) node None ↔ IsLatestDeparture roads answers targets node None)
    (walk_law : (node : ℕ) (walk : List ℕ) → IsCanonical (turned_roads roads) (IsTurned answers) (turned_targets targets) (IsLeastAt (turned_roads roads) (IsTurned answers) (turned_targets targets)) node walk
    ↔ IsCanonicalTo roads answers targets (IsLatestAt roads answers targets) node (reverse walk))
    (in_time_law : (node departure : ℕ) (walk : List ℕ) → IsLatestAt roads answers targets node departure → IsCanonicalTo roads answers targets (IsLatestAt roads answers targets) node walk → AttainsInTime roads answers targets walk node departure)
  where
    latest_of : (node : ℕ) (arrival : Option ℕ) → IsLeast (turned_roads roads) (IsTurned answers) (turned_targets targets) node arrival → IsLatestDeparture roads answers targets node (turned_back arrival)
    latest_of node (Some time) least = (time_law node time least.0.within).0 least
    latest_of node None none = (none_law node).0 none

    -- an answer of the turned network from the turned targets
    module _
        (query : Asking)
        (walks : Bool)
        (answer : Answered)
        (sources : query.sources ≡ turned_targets targets)
        (has : HasArrivals (turned_roads roads) (IsTurned answers) query answer)
        (is : walks ≡ true → IsAnswer (turned_roads roads) (IsTurned answers) query answer)
      where
        latest : (node : ℕ) → IsNode roads.nodes node → IsAskedBy query.target node → IsLatestDeparture roads answers targets node (departure_of answer node)
        latest node is_node asked =
            latest_of node (arrival_of answer node) (subst (λ (xs : List Source). IsLeast (turned_roads roads) (IsTurned answers) xs node (arrival_of answer node)) sources (has.least node is_node asked))

        canonical : walks ≡ true → (node : ℕ) (walk : List ℕ) → IsNode roads.nodes node → IsAskedBy query.target node → walk_to answer node ≡ Some walk → IsCanonicalTo roads answers targets (IsLatestAt roads answers targets) node walk
        canonical with_walks node walk is_node asked found =
            let back = walk_of_turned (walk_of answer node) walk found in
            let turned = (is with_walks).canonical node back.0 is_node asked back.1 in
            let over = subst (λ (xs : List Source). IsCanonical (turned_roads roads) (IsTurned answers) xs (IsLeastAt (turned_roads roads) (IsTurned answers) xs) node back.0) sources turned in
            subst (λ w. IsCanonicalTo roads answers targets (IsLatestAt roads answers targets) node w) back.2 ((walk_law node back.0).0 over)

        pub are_latest : AreLatest roads answers targets query.target walks answer
        are_latest = record {
          nodes = has.nodes;
          target = has.target;
          latest = latest;
          canonical = canonical;
          in_time = λ with_walks node departure walk is_node asked departs found.
              in_time_law node departure walk
              (subst (λ d. IsLatestDeparture roads answers targets node d) departs (latest node is_node asked))
              (canonical with_walks node walk is_node asked found);
        }
