-- An order of nodes that is being made: some have a number in it, the others have none yet.
use Rattle.std.specs.Prelude.{◌≡◌, ◌≢◌, ℕ, ◌+◌, ◌≤◌, ◌==◌, List, length, if◌then◌else◌}
use Rattle.std.specs.List.{sum_by}
use Rattle.ea_road.specs.Roads.{Roads, IsNode}
use Rattle.ea_layout.specs.declared.layout.Layout.{Layout}
use Rattle.ea_layout.specs.Renamed.{AreReverse, number_of, renamed_roads}

-- The number of each node, 0 for none; the node of each number; and how many numbers were given.
pub record Ordered : Type 0 where
  pub places : List ℕ
  pub nodes : List ℕ
  pub count : ℕ

-- How many nodes have no number.
abbrev pub unplaced : List ℕ → ℕ
unplaced places = sum_by (λ place. if place == 0 then 1 else 0) places

-- Numbers are given from 1 on, each to one node, and lists lead from nodes to numbers and back.
pub record IsOrder (order : Ordered) : Type 0 where
  pub lengths : length order.nodes ≡ length order.places
  pub few : length order.places ≤ 67108864
  pub counted : unplaced order.places + order.count ≡ length order.places
  pub placed : (node : ℕ) → IsNode (length order.places) node → number_of order.places node ≢ 0
      → IsNode order.count (number_of order.places node) × (number_of order.nodes (number_of order.places node) ≡ node)
  pub noded : (place : ℕ) → IsNode order.count place
      → IsNode (length order.places) (number_of order.nodes place) × (number_of order.places (number_of order.nodes place) ≡ place)

-- Each node has a number.
abbrev pub AreAllPlaced : List ℕ → Type 0
AreAllPlaced places = (node : ℕ) → IsNode (length places) node → number_of places node ≢ 0

-- The nodes of a network, in an order, and the network under the numbers of that order.
pub record LaysOut (roads : Roads) (layout : Layout) : Type 0 where
  pub reverse : AreReverse roads.nodes layout.places.items layout.nodes.items
  pub network : layout.network ≡ renamed_roads layout.places.items roads

-- The network that a layout is of, under its own numbers: the layout's, renamed back.
abbrev pub file_roads : Layout → Roads
file_roads layout = renamed_roads layout.nodes.items layout.network
