-- Nodes of an order, one after another, and ranks.
use Rattle.std.proofs.Common.{◌≡◌, ℕ, ◌-◌, ◌<◌, arith, List, Bool, Option, Some, None, true, false, length}
use Rattle.std.specs.Prelude.{IfSome, Vec, slice_index, slice_index_or}
use Rattle.std.specs.List.{range_with_len}
use Rattle.std.proofs.lemmas.List.FromFn.{get_or-range_with_len, length-range_with_len}
use Rattle.ea_road.specs.Roads.{IsNode}
use Rattle.ea_hierarchy.specs.Hierarchies.{AreRanks}
use Rattle.ea_hierarchy.specs.Orders.{ranks_in}

-- the nodes at the first places differ, and they are those that have a mark
pub record IsSeenTo (nodes : ℕ) (order : List ℕ) (seen : List Bool) (to : ℕ) : Type 0 where
  pub count : length seen ≡ nodes
  pub are_nodes : (place : ℕ) → place < to → IsNode nodes (slice_index order place)
  pub marked : (place : ℕ) → place < to → slice_index_or seen (slice_index order place - 1) false ≡ true
  pub differ : (place later : ℕ) → place < later → later < to → slice_index order place ≡ slice_index order later → ⊥
  pub from : (node : ℕ) → IsNode nodes node → slice_index_or seen (node - 1) false ≡ true → (place : ℕ) × (place < to) × (slice_index order place ≡ node)

-- there are as many ranks as nodes
pub length-ranks_in : {Z : Type 0} (nodes : ℕ) (list : Option (Vec ℕ Z)) → IfSome list (λ it. length it.items ≡ nodes) → length (ranks_in nodes list) ≡ nodes
length-ranks_in nodes (Some list) is = is
length-ranks_in nodes None is = length-range_with_len 0 nodes

-- numbers less one are ranks
pub are_numbers : (nodes : ℕ) → AreRanks nodes (range_with_len 0 nodes)
are_numbers nodes = record {
  count = length-range_with_len 0 nodes;
  below = λ place below. omega (arith, below, get_or-range_with_len 0 nodes place 0 below);
}
