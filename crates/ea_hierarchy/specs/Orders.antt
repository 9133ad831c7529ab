-- Orders of nodes, and ranks.
use Rattle.std.specs.Prelude.{◌≡◌, ℕ, ◌<◌, List, Option, Some, None, Vec, length, slice_index}
use Rattle.std.specs.List.{range_with_len}
use Rattle.ea_road.specs.Roads.{IsNode}

-- Each node is in the order once.
pub record IsOrder (nodes : ℕ) (order : List ℕ) : Type 0 where
  pub count : length order ≡ nodes
  pub are_nodes : (place : ℕ) → place < nodes → IsNode nodes (slice_index order place)
  pub differ : (place later : ℕ) → place < later → later < nodes → slice_index order place ≡ slice_index order later → ⊥

-- The ranks of nodes by a list of them; without one each node's is its number less one.
abbrev pub ranks_in : {Z : Type 0} → ℕ → Option (Vec ℕ Z) → List ℕ
ranks_in nodes (Some list) = list.items
ranks_in nodes None = range_with_len 0 nodes
