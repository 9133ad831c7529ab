-- Labels written place by place, and the asked node.
use Rattle.std.proofs.Common.{◌≡◌, ℕ, ◌-◌, ◌<◌, ◌≤◌, List, arith}
use Rattle.std.specs.Prelude.{Option, Some, None, slice_index}
use Rattle.ea_road.specs.Labels.{time_of}
use Rattle.ea_road.specs.Roads.{IsNode}
use Rattle.ea_road.specs.Queries.{IsAskedBy}
use Rattle.ea_search.specs.Answers.{Answered, arrival_of}
use Rattle.ea_capi.specs.Latest.{departure_of}

-- The first places have the latest departures of their nodes.
pub record AreDepartures (answer : Answered) (out : List ℕ) (count : ℕ) : Type 0 where
  pub each : (node : ℕ) → 0 < node → node ≤ count → time_of (slice_index out (node - 1)) ≡ departure_of answer node

pub first_and_last : (nodes : ℕ) (target : Option ℕ) → IsAskedBy target 1 → IsAskedBy target nodes → (node : ℕ) → IsNode nodes node → IsAskedBy target node
first_and_last nodes None first last node is = tt
first_and_last nodes (Some target) first last node is = omega (arith, first, last, is.from_one, is.to_last)

-- The first places have the labels of the nodes of a list.
pub record AreAnswered (answer : Answered) (list out : List ℕ) (count : ℕ) : Type 0 where
  pub each : (place : ℕ) → place < count → time_of (slice_index out place) ≡ arrival_of answer (slice_index list place)
