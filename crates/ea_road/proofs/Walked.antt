-- Up to the target's label, nodes with a least arrival have levels and one canonical walk.
use Rattle.std.proofs.Common.{◌∙◌, sym, ℕ, ◌≤◌, List, arith}
use Rattle.ea_travel_times.specs.Answers.{IsFifo}
use Rattle.ea_road.specs.Roads.{Roads, IsNode, IsNetwork}
use Rattle.ea_road.specs.Queries.{Asking, IsProblem}
use Rattle.ea_road.specs.Arrivals.{Attains, IsLeastAt}
use Rattle.ea_road.specs.Labels.{IsFixed, IsLabel, limit}
use Rattle.ea_road.specs.Levels.{IsLevel, IsCanonical}
use Rattle.ea_road.proofs.Agree.{AreTimes, SaysToo, level_there, canonical_there}
use Rattle.ea_road.proofs.Canonical.{canonical_attains}
use Rattle.ea_road.proofs.Chains.{level_of, canonical_walk}
use Rattle.ea_road.proofs.Fixed.{labelled, label_is_least, least_is_label}
use Rattle.ea_road.proofs.Rooted.{chain_to}

-- labels are times
pub labels_are_times : (label : ℕ → ℕ) → AreTimes (IsLabel label)
labels_are_times label = record {
  within = λ node time at. at.1;
  one = λ node time other this that. sym this.0 ∙ that.0;
}

module _
    (roads : Roads)
    (answers : ℕ → ℕ → ℕ → ℕ → Type 0)
    (classes : ℕ)
    (query : Asking)
  where
    abbrev earliest : ℕ → ℕ → Type 0
    earliest = IsLeastAt roads answers query.sources

    -- least arrivals are times
    pub least_are_times : AreTimes earliest
    least_are_times = record {
      within = λ node time least. least.0.within;
      one = λ node time other this that.
          let low = this.1 other that.0 in
          let high = that.1 time this.0 in
          omega arith;
    }

    pub least_attains : (node time : ℕ) (walk : List ℕ) → earliest node time → IsCanonical roads answers query.sources earliest node walk → Attains roads answers query.sources walk node time
    least_attains node time walk least canonical =
        canonical_attains roads answers query.sources earliest least_are_times.within least_are_times.one time least canonical

    module _
        (label : ℕ → ℕ)
        (network : IsNetwork roads)
        (problem : IsProblem roads classes query)
        (fifo : IsFifo answers classes)
        (fixed : IsFixed roads answers query label)
      where
        labels_say : SaysToo roads.nodes (IsLabel label) earliest (limit query.target label)
        labels_say node time is_node low at = label_is_least roads answers classes query label network problem.classed fifo fixed node time is_node low at

        least_say : SaysToo roads.nodes earliest (IsLabel label) (limit query.target label)
        least_say node time is_node low least = least_is_label roads answers classes query label network problem.classed fifo fixed node time is_node low least

        -- from the labels of a table to the least arrivals
        pub level_over_least : (node level time : ℕ) → IsNode roads.nodes node → IsLabel label node time → time ≤ limit query.target label → IsLevel roads answers query.sources (IsLabel label) node level → IsLevel roads answers query.sources earliest node level
        level_over_least node level time is_node at low is_level =
            level_there roads answers classes query.sources network problem.classed fifo problem.sources (IsLabel label) earliest (limit query.target label) (labels_are_times label) least_are_times labels_say least_say time is_node at low is_level

        pub canonical_over_least : (node time : ℕ) (walk : List ℕ) → IsNode roads.nodes node → IsLabel label node time → time ≤ limit query.target label → IsCanonical roads answers query.sources (IsLabel label) node walk → IsCanonical roads answers query.sources earliest node walk
        canonical_over_least node time walk is_node at low canonical =
            canonical_there roads answers classes query.sources network problem.classed fifo problem.sources (IsLabel label) earliest (limit query.target label) (labels_are_times label) least_are_times labels_say least_say time is_node at low canonical

        label_level : (node time : ℕ) → IsNode roads.nodes node → IsLabel label node time → time ≤ limit query.target label → (level : ℕ) × IsLevel roads answers query.sources (IsLabel label) node level
        label_level node time is_node at low =
            let chain = chain_to roads answers classes query label network problem.classed fifo fixed problem.sources node is_node (labelled (label node) (omega (arith, at))) (omega (arith, at)) in
            level_of roads answers classes query.sources label network problem.classed fifo node chain.0 chain.1

        pub least_level : (node time : ℕ) → IsNode roads.nodes node → earliest node time → time ≤ limit query.target label → (level : ℕ) × IsLevel roads answers query.sources earliest node level
        least_level node time is_node least low =
            let at = least_say node time is_node low least in
            let found = label_level node time is_node at low in
            (found.0, level_over_least node found.0 time is_node at low found.1)

        pub least_walk : (node time : ℕ) → IsNode roads.nodes node → earliest node time → time ≤ limit query.target label → (walk : List ℕ) × IsCanonical roads answers query.sources earliest node walk
        least_walk node time is_node least low =
            let at = least_say node time is_node low least in
            let found = label_level node time is_node at low in
            let walk = canonical_walk roads answers classes query.sources label network problem.classed fifo found.0 node found.1 in
            (walk.0, canonical_over_least node time walk.0 is_node at low walk.1)
