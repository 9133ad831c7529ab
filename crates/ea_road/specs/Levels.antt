-- Tight arcs, levels and canonical walks, for any times of nodes: the least arrivals, the labels of a table,
-- or the times of a report. `times` relates a node to its time.
use Rattle.std.specs.Prelude.{◌≡◌, ℕ, suc, ◌≤◌, List, [], ◌∷◌, ◌++◌}
use Rattle.std.specs.List.{IsAmong}
use Rattle.ea_road.specs.declared.arc.Arc.{Arc}
use Rattle.ea_road.specs.declared.source.Source.{Source}
use Rattle.ea_road.specs.Roads.{Roads, IsArc}

-- An arc that, left at the time of its tail, arrives at the time of its head.
pub record IsTight
    (roads : Roads)
    (answers : ℕ → ℕ → ℕ → ℕ → Type 0)
    (times : ℕ → ℕ → Type 0)
    (number tail head : ℕ)
    : Type 0 where
  pub arc : Arc
  pub is_arc : IsArc roads number arc
  pub is_tail : arc.tail ≡ tail
  pub is_head : arc.head ≡ head
  pub departure : ℕ
  pub arrival : ℕ
  pub at_tail : times tail departure
  pub at_head : times head arrival
  pub answer : answers arc.class arc.weight departure arrival

-- This number of tight arcs leads to the node from a source whose departure is its time.
pub data HasChain
    (roads : Roads)
    (answers : ℕ → ℕ → ℕ → ℕ → Type 0)
    (sources : List Source)
    (times : ℕ → ℕ → Type 0)
    : ℕ → ℕ → Type 0 where
  begins : {source : Source} → IsAmong sources source → times source.node source.departure → HasChain roads answers sources times source.node 0
  follows : {tail head number count : ℕ} → HasChain roads answers sources times tail count → IsTight roads answers times number tail head → HasChain roads answers sources times head (suc count)

-- The fewest tight arcs in such a chain to the node.
pub record IsLevel
    (roads : Roads)
    (answers : ℕ → ℕ → ℕ → ℕ → Type 0)
    (sources : List Source)
    (times : ℕ → ℕ → Type 0)
    (node level : ℕ)
    : Type 0 where
  pub chain : HasChain roads answers sources times node level
  pub fewest : (count : ℕ) → HasChain roads answers sources times node count → level ≤ count

-- The canonical walk: empty at level 0; else the canonical walk of a node one level below, followed by the
-- lowest-numbered tight arc from such a node.
pub data IsCanonical
    (roads : Roads)
    (answers : ℕ → ℕ → ℕ → ℕ → Type 0)
    (sources : List Source)
    (times : ℕ → ℕ → Type 0)
    : ℕ → List ℕ → Type 0 where
  at_source : {node : ℕ} → IsLevel roads answers sources times node 0 → IsCanonical roads answers sources times node []
  by_arc : {tail head number level : ℕ} {walk : List ℕ} → IsCanonical roads answers sources times tail walk → IsLevel roads answers sources times tail level → IsLevel roads answers sources times head (suc level) → IsTight roads answers times number tail head → ((other from : ℕ) → IsTight roads answers times other from head → IsLevel roads answers sources times from level → number ≤ other) → IsCanonical roads answers sources times head (walk ++ number ∷ [])
