-- A network and a query under other numbers of the nodes. Arcs keep their numbers.
use Rattle.std.specs.Prelude.{◌≡◌, ℕ, ◌-◌, List, Option, Some, None, length, map, slice_index}
use Rattle.ea_road.specs.declared.arc.Arc.{Arc}
use Rattle.ea_road.specs.declared.source.Source.{Source}
use Rattle.ea_road.specs.Roads.{Roads, IsNode}
use Rattle.ea_road.specs.Queries.{Asking}

-- The number that a list gives a node: the first place is that of node 1.
abbrev pub number_of : List ℕ → ℕ → ℕ
number_of numbers node = slice_index numbers (node - 1)

-- Each node's number is that of a node.
abbrev pub StayNodes : List ℕ → Type 0
StayNodes numbers = (node : ℕ) → IsNode (length numbers) node → IsNode (length numbers) (number_of numbers node)

-- Two lists of numbers of nodes, each the reverse of the other.
pub record AreReverse (nodes : ℕ) (there back : List ℕ) : Type 0 where
  pub there_length : length there ≡ nodes
  pub back_length : length back ≡ nodes
  pub there_node : (node : ℕ) → IsNode nodes node → IsNode nodes (number_of there node)
  pub back_node : (node : ℕ) → IsNode nodes node → IsNode nodes (number_of back node)
  pub back_there : (node : ℕ) → IsNode nodes node → number_of back (number_of there node) ≡ node
  pub there_back : (node : ℕ) → IsNode nodes node → number_of there (number_of back node) ≡ node

abbrev pub renamed_arc : List ℕ → Arc → Arc
renamed_arc numbers arc = record { tail = number_of numbers arc.tail; head = number_of numbers arc.head; weight = arc.weight; class = arc.class }

abbrev pub renamed_roads : List ℕ → Roads → Roads
renamed_roads numbers roads = record { nodes = roads.nodes; arcs = map (renamed_arc numbers) roads.arcs }

abbrev pub renamed_source : List ℕ → Source → Source
renamed_source numbers source = record { node = number_of numbers source.node; departure = source.departure }

abbrev pub renamed_sources : List ℕ → List Source → List Source
renamed_sources numbers sources = map (renamed_source numbers) sources

abbrev pub renamed_target : List ℕ → Option ℕ → Option ℕ
renamed_target numbers None = None
renamed_target numbers (Some target) = Some (number_of numbers target)

abbrev pub renamed_query : List ℕ → Asking → Asking
renamed_query numbers query = record { sources = renamed_sources numbers query.sources; target = renamed_target numbers query.target }
