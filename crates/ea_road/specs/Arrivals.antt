-- Walks and their arrivals. `answers` relates class, weight and departure of an arc to its arrival.
use Rattle.std.specs.Prelude.{◌≡◌, ℕ, ◌≤◌, Option, Some, None, List, [], ◌∷◌, ◌++◌}
use Rattle.std.specs.List.{IsAmong}
use Rattle.ea_base.specs.declared.limits.TheConstants.{HORIZON}
use Rattle.ea_road.specs.declared.arc.Arc.{Arc}
use Rattle.ea_road.specs.declared.source.Source.{Source}
use Rattle.ea_road.specs.Roads.{Roads, IsArc}

-- A walk that leaves a node at a departure arrives at a node at a time. The empty walk arrives at its
-- beginning at the departure. A walk that arrives within the horizon may be extended by an arc left then and
-- there.
pub data Arrives
    (roads : Roads)
    (answers : ℕ → ℕ → ℕ → ℕ → Type 0)
    (start departure : ℕ)
    : List ℕ → ℕ → ℕ → Type 0 where
  stays : Arrives roads answers start departure [] start departure
  goes : {walk : List ℕ} {node time number arrival : ℕ} {arc : Arc} → Arrives roads answers start departure walk node time → time ≤ HORIZON → IsArc roads number arc → arc.tail ≡ node → answers arc.class arc.weight time arrival → Arrives roads answers start departure (walk ++ number ∷ []) arc.head arrival

-- The walk leads from some source, left at its departure, to the node at the time.
pub record Attains
    (roads : Roads)
    (answers : ℕ → ℕ → ℕ → ℕ → Type 0)
    (sources : List Source)
    (walk : List ℕ)
    (node time : ℕ)
    : Type 0 where
  pub source : Source
  pub among : IsAmong sources source
  pub arrives : Arrives roads answers source.node source.departure walk node time

-- Some source has a walk to the node that, left at the source's departure, arrives at the time, within the
-- horizon.
pub record Reaches
    (roads : Roads)
    (answers : ℕ → ℕ → ℕ → ℕ → Type 0)
    (sources : List Source)
    (node time : ℕ)
    : Type 0 where
  pub source : Source
  pub walk : List ℕ
  pub among : IsAmong sources source
  pub arrives : Arrives roads answers source.node source.departure walk node time
  pub within : time ≤ HORIZON

-- A time that reaches the node, if no smaller one does; or none, if no time does.
abbrev pub IsLeast : Roads → (ℕ → ℕ → ℕ → ℕ → Type 0) → List Source → ℕ → Option ℕ → Type 0
IsLeast roads answers sources node (Some time) =
    Reaches roads answers sources node time × ((other : ℕ) → Reaches roads answers sources node other → time ≤ other)
IsLeast roads answers sources node None =
    (other : ℕ) → Reaches roads answers sources node other → ⊥

-- The least arrivals, as a relation: the node's is the time.
abbrev pub IsLeastAt : Roads → (ℕ → ℕ → ℕ → ℕ → Type 0) → List Source → ℕ → ℕ → Type 0
IsLeastAt roads answers sources node time = IsLeast roads answers sources node (Some time)

-- The arc with this number extends the walk from the node, left at the time.
pub record GoesOn
    (roads : Roads)
    (answers : ℕ → ℕ → ℕ → ℕ → Type 0)
    (node time number head arrival : ℕ)
    : Type 0 where
  pub arc : Arc
  pub is_arc : IsArc roads number arc
  pub is_tail : arc.tail ≡ node
  pub is_head : arc.head ≡ head
  pub answer : answers arc.class arc.weight time arrival
