-- A network as contracts see it: its number of nodes, and its arcs in their order.
use Rattle.std.specs.Prelude.{◌≡◌, ℕ, ◌+◌, ◌-◌, ◌/◌, ◌^◌, ◌<◌, ◌≤◌, ◌==◌, max, List, [], ◌∷◌, length, Some, slice_get, slice_index, if◌then◌else◌}
use Rattle.ea_road.specs.declared.arc.Arc.{Arc}
use Rattle.ea_road.specs.declared.leaving_arc.LeavingArc.{LeavingArc}

pub record Roads : Type 0 where
  pub nodes : ℕ
  pub arcs : List Arc

-- Nodes are numbered from 1.
pub record IsNode (nodes node : ℕ) : Type 0 where
  pub from_one : 0 < node
  pub to_last : node ≤ nodes

-- Arcs are numbered from 1, in their order.
pub record IsArc (roads : Roads) (number : ℕ) (arc : Arc) : Type 0 where
  pub from_one : 0 < number
  pub found : slice_get roads.arcs (number - 1) ≡ Some arc

-- An arc's ends are nodes, and its weight has 32 bits.
pub record FitsNodes (nodes : ℕ) (arc : Arc) : Type 0 where
  pub tail : IsNode nodes arc.tail
  pub head : IsNode nodes arc.head
  pub weight : arc.weight < 2 ^ 32

-- The limits hold, for the network and for each arc.
pub record IsNetwork (roads : Roads) : Type 0 where
  pub has_nodes : 0 < roads.nodes
  pub nodes_limit : roads.nodes ≤ 67108864
  pub arcs_limit : length roads.arcs ≤ 268435456
  pub each_fits : (number : ℕ) (arc : Arc) → IsArc roads number arc → FitsNodes roads.nodes arc

-- The greatest class of an arc, 0 without arcs.
abbrev pub top_class : List Arc → ℕ
top_class [] = 0
top_class (arc ∷ arcs) = max arc.class (top_class arcs)

-- The sum of all weights.
abbrev pub total_weight : List Arc → ℕ
total_weight [] = 0
total_weight (arc ∷ arcs) = arc.weight + total_weight arcs

-- The mean weight of the arcs, rounded down; 0 without arcs.
abbrev pub mean_weight : List Arc → ℕ
mean_weight arcs = total_weight arcs / max (length arcs) 1

-- The numbers of the arcs that leave a node, ascending, if the first arc of the list has this number.
abbrev pub leaving_from : ℕ → ℕ → List Arc → List ℕ
leaving_from node number [] = []
leaving_from node number (arc ∷ arcs) =
    if arc.tail == node then number ∷ leaving_from node (number + 1) arcs else leaving_from node (number + 1) arcs

abbrev pub leaving : Roads → ℕ → List ℕ
leaving roads node = leaving_from node 1 roads.arcs

-- An arc that leaves a node, with this node as its tail.
abbrev pub with_tail : LeavingArc → ℕ → Arc
with_tail arc node = record { tail = node; head = arc.head; weight = arc.weight; class = arc.class }

-- An arc without its tail.
abbrev pub without_tail : Arc → LeavingArc
without_tail arc = record { head = arc.head; weight = arc.weight; class = arc.class }

-- The numbers of arcs that leave a node, and the arcs in that order.
pub record AreSideBySide (roads : Roads) (node : ℕ) (numbers : List ℕ) (arcs : List LeavingArc) : Type 0 where
  pub lengths : length arcs ≡ length numbers
  pub each : (place : ℕ) (arc : LeavingArc) → slice_get arcs place ≡ Some arc → IsArc roads (slice_index numbers place) (with_tail arc node)
