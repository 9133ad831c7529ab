-- Tables of labels: a time for each node, or NONE.
use Rattle.std.specs.Prelude.{◌≡◌, ◌≢◌, ℕ, ◌≤◌, ◌==◌, ◌-◌, slice_index, Option, Some, None, List, if◌then◌else◌}
use Rattle.std.specs.List.{IsAmong}
use Rattle.ea_base.specs.declared.limits.TheConstants.{HORIZON}
use Rattle.ea_road.specs.declared.TheConstants.{NONE}
use Rattle.ea_road.specs.declared.arc.Arc.{Arc}
use Rattle.ea_road.specs.declared.source.Source.{Source}
use Rattle.ea_road.specs.Roads.{Roads, IsArc, IsNode}
use Rattle.ea_road.specs.Queries.{Asking}
use Rattle.ea_road.specs.Arrivals.{Reaches}

-- The meaning of a label: a time, or none.
abbrev pub time_of : ℕ → Option ℕ
time_of label = if label == NONE then None else Some label

-- The label of a node in a table: the first place is that of node 1.
abbrev pub label_of : List ℕ → ℕ → ℕ
label_of table node = slice_index table (node - 1)

-- Labels as a relation: the node's is the time.
abbrev pub IsLabel : (ℕ → ℕ) → ℕ → ℕ → Type 0
IsLabel label node time = (label node ≡ time) × (time ≤ HORIZON)

-- The bound up to which labels have to be right: the target's label, or NONE if all nodes are asked.
abbrev pub limit : Option ℕ → (ℕ → ℕ) → ℕ
limit None label = NONE
limit (Some target) label = label target

-- Each arc from the node, left at the time, arrives no earlier than the label of its head, or beyond the
-- horizon.
abbrev pub Satisfies : Roads → (ℕ → ℕ → ℕ → ℕ → Type 0) → (ℕ → ℕ) → ℕ → ℕ → Type 0
Satisfies roads answers label node time =
    (number : ℕ) (arc : Arc) (arrival : ℕ) → IsArc roads number arc → arc.tail ≡ node → answers arc.class arc.weight time arrival → arrival ≤ HORIZON → label arc.head ≤ arrival

-- Each source's label is at most its departure, each label is reached, and each node with a label is
-- satisfied or, in a pair query, has a label above the target's.
pub record IsFixed
    (roads : Roads)
    (answers : ℕ → ℕ → ℕ → ℕ → Type 0)
    (query : Asking)
    (label : ℕ → ℕ)
    : Type 0 where
  pub at_sources : (source : Source) → IsAmong query.sources source → label source.node ≤ source.departure
  pub reached : (node : ℕ) → IsNode roads.nodes node → label node ≢ NONE → Reaches roads answers query.sources node (label node)
  pub satisfied : (node : ℕ) → IsNode roads.nodes node → label node ≢ NONE → label node ≤ limit query.target label → Satisfies roads answers label node (label node)
