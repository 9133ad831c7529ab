-- A table of labels and the waiting nodes: what holds before, during and after the finishing pass.
use Rattle.std.specs.Prelude.{◌≡◌, ◌≢◌, ℕ, zero, suc, ◌<◌, ◌≤◌, List, [], length, slice_index_or, Contains, ◌⊎◌}
use Rattle.std.specs.List.{IsAmong}
use Rattle.ea_road.specs.declared.TheConstants.{NONE}
use Rattle.ea_road.specs.declared.source.Source.{Source}
use Rattle.ea_road.specs.Roads.{Roads, IsNode}
use Rattle.ea_road.specs.Queries.{Asking}
use Rattle.ea_road.specs.Arrivals.{Reaches}
use Rattle.ea_road.specs.Labels.{IsFixed, Satisfies, label_of, limit}
use Rattle.ea_search.specs.Worklist.{Worklist}

-- Each source's label is at most its departure, each label is reached, and each node with a label is
-- satisfied, waits, or, in a pair query, has a label above the target's.
pub record IsUnderwayBy
    (roads : Roads)
    (answers : ℕ → ℕ → ℕ → ℕ → Type 0)
    (query : Asking)
    (label : ℕ → ℕ)
    (waiting : List ℕ)
    : Type 0 where
  pub at_sources : (source : Source) → IsAmong query.sources source → label source.node ≤ source.departure
  pub reached : (node : ℕ) → IsNode roads.nodes node → label node ≢ NONE → Reaches roads answers query.sources node (label node)
  pub settled : (node : ℕ) → IsNode roads.nodes node → label node ≢ NONE
      → Satisfies roads answers label node (label node) ⊎ Contains waiting node ⊎ (limit query.target label < label node)

-- The same for the labels of a table with a place for each node.
pub record IsUnderway
    (roads : Roads)
    (answers : ℕ → ℕ → ℕ → ℕ → Type 0)
    (query : Asking)
    (table waiting : List ℕ)
    : Type 0 where
  pub places : length table ≡ roads.nodes
  pub labels : IsUnderwayBy roads answers query (label_of table) waiting

-- The labels are fixed, so they are the least arrivals, in a pair query up to the target's label; no node
-- waits.
pub record IsFinished
    (roads : Roads)
    (answers : ℕ → ℕ → ℕ → ℕ → Type 0)
    (query : Asking)
    (table : List ℕ)
    (todo : Worklist)
    : Type 0 where
  pub places : length table ≡ roads.nodes
  pub fixed : IsFixed roads answers query (label_of table)
  pub nobody : todo.waiting ≡ []
  pub room : todo.nodes ≡ roads.nodes

-- The bound for a node's arrival: its label, or NONE for a number that is no node's. The finishing pass is
-- specified with bounds and promises labels; both are equal for nodes.
unfoldable pub bound_of : List ℕ → ℕ → ℕ
bound_of table zero = NONE
bound_of table (suc place) = slice_index_or table place NONE
