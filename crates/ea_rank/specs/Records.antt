-- Properties of the record of a run.
use Rattle.std.specs.Prelude.{◌≡◌, ℕ, ◌≤◌, ◌==◌, if◌then◌else◌, List, length, Ok}
use Rattle.std.specs.List.{AllByRecursion}
use Rattle.ea_machine.specs.Totals.{total}
use Rattle.ea_base.specs.declared.limits.TheConstants.{HORIZON}
use Rattle.ea_road.specs.declared.source.Source.{Source}
use Rattle.ea_road.specs.Arrivals.{IsLeast}
use Rattle.ea_road.specs.Labels.{label_of, time_of}
use Rattle.ea_road.specs.Roads.{Roads, IsNode}
use Rattle.ea_rank.specs.declared.event.Event.{Event}
use Rattle.ea_rank.specs.Ranks.{rank_errors}

-- Each pop has a rank error, so its key was in the queue; with two heaps all rank errors are 0.
pub record HasRanks (heaps : ℕ) (events : List Event) : Type 0 where
  pub ranks : List ℕ
  pub found : rank_errors events ≡ Ok ranks
  pub exact : heaps ≡ 2 → AllByRecursion (λ rank. rank ≡ 0) ranks

-- How often a number occurs in a list.
abbrev pub occurrences : ℕ → List ℕ → ℕ
occurrences number numbers = total (λ n. if n == number then 1 else 0) numbers

-- The keys contain the least arrivals of all reached nodes, as a multiset.
pub record ContainArrivals
    (roads : Roads)
    (answers : ℕ → ℕ → ℕ → ℕ → Type 0)
    (sources : List Source)
    (keys : List ℕ)
    : Type 0 where
  pub labels : List ℕ
  pub places : length labels ≡ roads.nodes
  pub least : (node : ℕ) → IsNode roads.nodes node → IsLeast roads answers sources node (time_of (label_of labels node))
  pub contained : (time : ℕ) → time ≤ HORIZON → occurrences time labels ≤ occurrences time keys
