-- Levels and canonical walks of the turned question are those to targets.
use Rattle.std.proofs.Common.{◌≡◌, ◌∙◌, refl, ℕ, ◌-◌, ◌≤◌, inl, inr, List, [], ◌∷◌, ◌++◌, arith, ap, subst, sym}
use Rattle.std.specs.Prelude.{reverse}
use Rattle.std.proofs.lemmas.List.{reverse-append, reverse-reverse}
use Rattle.ea_base.specs.declared.limits.TheConstants.{HORIZON}
use Rattle.ea_travel_times.specs.Answers.{IsFifo}
use Rattle.ea_travel_times.specs.Departures.{IsDepartureBy}
use Rattle.ea_travel_times.specs.TurnedTimes.{IsTurned}
use Rattle.ea_road.specs.declared.source.Source.{Source}
use Rattle.ea_road.specs.declared.target.Target.{Target}
use Rattle.ea_road.specs.Roads.{Roads, IsNetwork, top_class}
use Rattle.ea_road.specs.Arrivals.{IsLeastAt}
use Rattle.ea_road.specs.Levels.{IsTight, HasChain, begins, follows, IsLevel, IsCanonical, at_source, by_arc}
use Rattle.ea_road.specs.LatestDepartures.{AreTargets, AttainsInTime, IsLatestAt, IsTightTo, HasChainTo, ends, precedes, IsLevelTo, IsCanonicalTo, at_target, by_first, turned_target, turned_targets}
use Rattle.ea_road.specs.Turned.{turned_arc, turned_roads}
use Rattle.ea_road.proofs.TurnedWalks.{arc_back, arc_turned, reverse-push}
use Rattle.ea_road.proofs.TurnedArrivals.{attains_in_time, latest_is_least, least_is_latest, target_back, target_turned}
use Rattle.ea_road.proofs.Canonical.{canonical_attains, one_canonical}

-- Times of the turned question, and times by which nodes are left: each is HORIZON less the other.
pub record AreTurnedTimes (turned times : ℕ → ℕ → Type 0) : Type 0 where
  pub there : (node time : ℕ) → turned node time → times node (HORIZON - time)
  pub within : (node time : ℕ) → turned node time → time ≤ HORIZON
  pub back : (node time : ℕ) → times node time → turned node (HORIZON - time)
  pub in_time : (node time : ℕ) → times node time → time ≤ HORIZON

module _
    (roads : Roads)
    (answers : ℕ → ℕ → ℕ → ℕ → Type 0)
    (targets : List Target)
    (turned times : ℕ → ℕ → Type 0)
    (are : AreTurnedTimes turned times)
    (timed : AreTargets targets)
  where
    tight_to : {number tail head : ℕ} → IsTight (turned_roads roads) (IsTurned answers) turned number tail head → IsTightTo roads answers times number head tail
    tight_to {number} {tail} {head} tight = step tight.answer
      where
        step : IsTurned answers tight.arc.class tight.arc.weight tight.departure tight.arrival → IsTightTo roads answers times number head tail
        step (inr none) = let inside = are.within head tight.arrival tight.at_head in absurd (omega (arith, none.1, inside))
        step (inl found) =
            let inside = found.1.in_time.within in
            let same : HORIZON - tight.arrival ≡ found.0 = omega (arith, found.2, inside) in
            record {
              arc = turned_arc tight.arc;
              is_arc = arc_back roads number tight.arc tight.is_arc;
              is_tail = tight.is_head;
              is_head = tight.is_tail;
              departure = found.0;
              arrival = HORIZON - tight.departure;
              at_tail = subst (λ t. times head t) same (are.there head tight.arrival tight.at_head);
              at_head = are.there tail tight.departure tight.at_tail;
              latest = found.1;
            }

    tight_back : {number tail head : ℕ} → IsTightTo roads answers times number tail head → IsTight (turned_roads roads) (IsTurned answers) turned number head tail
    tight_back {number} {tail} {head} tight =
        let inside = are.in_time head tight.arrival tight.at_head in
        let same : tight.arrival ≡ HORIZON - (HORIZON - tight.arrival) = omega (arith, inside) in
        let answer : IsTurned answers tight.arc.class tight.arc.weight (HORIZON - tight.arrival) (HORIZON - tight.departure) = inl (tight.departure, subst (λ a. IsDepartureBy answers tight.arc.class tight.arc.weight a tight.departure) same tight.latest, refl) in
        record {
          arc = turned_arc tight.arc;
          is_arc = arc_turned roads number tight.arc tight.is_arc;
          is_tail = tight.is_head;
          is_head = tight.is_tail;
          departure = HORIZON - tight.arrival;
          arrival = HORIZON - tight.departure;
          at_tail = are.back head tight.arrival tight.at_head;
          at_head = are.back tail tight.departure tight.at_tail;
          answer = answer;
        }

    chain_to : {node count : ℕ} → HasChain (turned_roads roads) (IsTurned answers) (turned_targets targets) turned node count → HasChainTo roads answers targets times node count
    chain_to (begins {source} among at) =
        let found = target_back targets source among in
        let low = timed.within found.0 found.1 in
        let same : HORIZON - (HORIZON - found.0.time) ≡ found.0.time = omega (arith, low) in
        let there = are.there found.0.node (HORIZON - found.0.time) (subst (λ (s : Source). turned s.node s.departure) found.2 at) in
        let start : HasChainTo roads answers targets times found.0.node 0 = ends found.1 (subst (λ t. times found.0.node t) same there) in
        subst (λ (s : Source). HasChainTo roads answers targets times s.node 0) (sym found.2) start
    chain_to (follows chain tight) = precedes (chain_to chain) (tight_to tight)

    chain_back : {node count : ℕ} → HasChainTo roads answers targets times node count → HasChain (turned_roads roads) (IsTurned answers) (turned_targets targets) turned node count
    chain_back (ends {target} among at) = begins {source = turned_target target} (target_turned targets target among) (are.back target.node target.time at)
    chain_back (precedes chain tight) = follows (chain_back chain) (tight_back tight)

    level_to : {node level : ℕ} → IsLevel (turned_roads roads) (IsTurned answers) (turned_targets targets) turned node level → IsLevelTo roads answers targets times node level
    level_to level = record { chain = chain_to level.chain; fewest = λ count chain. level.fewest count (chain_back chain) }

    level_back : {node level : ℕ} → IsLevelTo roads answers targets times node level → IsLevel (turned_roads roads) (IsTurned answers) (turned_targets targets) turned node level
    level_back level = record { chain = chain_back level.chain; fewest = λ count chain. level.fewest count (chain_to chain) }

    pub canonical_to : {node : ℕ} {walk : List ℕ} → IsCanonical (turned_roads roads) (IsTurned answers) (turned_targets targets) turned node walk → IsCanonicalTo roads answers targets times node (reverse walk)
    canonical_to (at_source level) = at_target (level_to level)
    canonical_to (by_arc {tail} {head} {number} {level} {walk} front lower upper tight lowest) =
        let whole = by_first (canonical_to front) (level_to lower) (level_to upper) (tight_to tight) (λ other to close under. lowest other to (tight_back close) (level_back under)) in
        subst (λ w. IsCanonicalTo roads answers targets times head w) (sym (reverse-push walk number)) whole

    canonical_reversed : {node : ℕ} {walk : List ℕ} → IsCanonicalTo roads answers targets times node walk → IsCanonical (turned_roads roads) (IsTurned answers) (turned_targets targets) turned node (reverse walk)
    canonical_reversed (at_target level) = at_source (level_back level)
    canonical_reversed (by_first {tail} {head} {number} {level} {walk} rest lower upper tight lowest) =
        subst (λ w. IsCanonical (turned_roads roads) (IsTurned answers) (turned_targets targets) turned tail w) (sym (reverse-first number walk)) (by_arc (canonical_reversed rest) (level_back lower) (level_back upper) (tight_back tight) (λ other from close under. lowest other from (tight_to close) (level_to under)))
      where
        reverse-first : (number : ℕ) (walk : List ℕ) → reverse (number ∷ walk) ≡ reverse walk ++ number ∷ []
        reverse-first number walk = reverse-append (number ∷ []) walk

    pub canonical_back : {node : ℕ} (walk : List ℕ) → IsCanonicalTo roads answers targets times node (reverse walk) → IsCanonical (turned_roads roads) (IsTurned answers) (turned_targets targets) turned node walk
    canonical_back {node} walk canonical =
        subst (λ w. IsCanonical (turned_roads roads) (IsTurned answers) (turned_targets targets) turned node w) (reverse-reverse walk) (canonical_reversed canonical)

    pub one_canonical_to : {node : ℕ} (this that : List ℕ) → IsCanonicalTo roads answers targets times node this → IsCanonicalTo roads answers targets times node that → this ≡ that
    one_canonical_to this that first second =
        let same = one_canonical (turned_roads roads) (IsTurned answers) (turned_targets targets) turned (canonical_reversed first) (canonical_reversed second) in
        sym (reverse-reverse this) ∙ ap reverse same ∙ reverse-reverse that

module _
    (roads : Roads)
    (answers : ℕ → ℕ → ℕ → ℕ → Type 0)
    (classes : ℕ)
    (targets : List Target)
    (network : IsNetwork roads)
    (classed : top_class roads.arcs ≤ classes)
    (fifo : IsFifo answers classes)
    (are : AreTargets targets)
  where
    abbrev turned_least : ℕ → ℕ → Type 0
    turned_least = IsLeastAt (turned_roads roads) (IsTurned answers) (turned_targets targets)

    abbrev latest : ℕ → ℕ → Type 0
    latest = IsLatestAt roads answers targets

    least_within : (node time : ℕ) → turned_least node time → time ≤ HORIZON
    least_within node time least = least.0.within

    least_are_latest : AreTurnedTimes turned_least latest
    least_are_latest = record {
      there = λ node time least. least_is_latest roads answers classes targets network classed fifo are node time least;
      within = least_within;
      back = λ node time at.
          let inside = at.0.within in
          let same : time ≡ HORIZON - (HORIZON - time) = omega (arith, inside) in
          latest_is_least roads answers classes targets network classed fifo are node (HORIZON - time) (omega arith) (subst (λ t. latest node t) same at);
      in_time = λ node time at. at.0.within;
    }

    -- canonical walks of the turned question over its least arrivals are those to targets over the latest departures, reversed
    pub canonical_turns : (node : ℕ) (walk : List ℕ) → IsCanonical (turned_roads roads) (IsTurned answers) (turned_targets targets) turned_least node walk → IsCanonicalTo roads answers targets latest node (reverse walk)
    canonical_turns node walk canonical = canonical_to roads answers targets turned_least latest least_are_latest are canonical

    pub canonical_turns_back : (node : ℕ) (walk : List ℕ) → IsCanonicalTo roads answers targets latest node (reverse walk) → IsCanonical (turned_roads roads) (IsTurned answers) (turned_targets targets) turned_least node walk
    canonical_turns_back node walk canonical = canonical_back roads answers targets turned_least latest least_are_latest are walk canonical

    pub one_walk_to : (node : ℕ) (this that : List ℕ) → IsCanonicalTo roads answers targets latest node this → IsCanonicalTo roads answers targets latest node that → this ≡ that
    one_walk_to node this that first second = one_canonical_to roads answers targets turned_least latest least_are_latest are this that first second

    one_time : (node time other : ℕ) → turned_least node time → turned_least node other → time ≡ other
    one_time node time other this that =
        let low = this.1 other that.0 in
        let high = that.1 time this.0 in
        omega arith

    -- a canonical walk to a target, left at the latest departure, is in time
    pub canonical_in_time : (node departure : ℕ) (walk : List ℕ) → latest node departure → IsCanonicalTo roads answers targets latest node walk → AttainsInTime roads answers targets walk node departure
    canonical_in_time node departure walk at canonical =
        let inside = at.0.within in
        let same : HORIZON - (HORIZON - departure) ≡ departure = omega (arith, inside) in
        let straight : IsCanonicalTo roads answers targets latest node (reverse (reverse walk)) = subst (λ w. IsCanonicalTo roads answers targets latest node w) (sym (reverse-reverse walk)) canonical in
        let turned = canonical_turns_back node (reverse walk) straight in
        let attains = canonical_attains (turned_roads roads) (IsTurned answers) (turned_targets targets) turned_least least_within one_time (HORIZON - departure) (least_are_latest.back node departure at) turned in
        let reversed = attains_in_time roads answers classes targets network classed fifo are (reverse walk) node (HORIZON - departure) attains (omega arith) in
        subst (λ t. AttainsInTime roads answers targets walk node t) same (subst (λ w. AttainsInTime roads answers targets w node (HORIZON - (HORIZON - departure))) (reverse-reverse walk) reversed)
