-- How a scan of a node changes a table and the waiting nodes.
use Rattle.std.specs.Prelude.{◌≡◌, ◌≢◌, ℕ, ◌<◌, ◌≤◌, List, Option, length, slice_index_or, Contains, min, ◌⊎◌}
use Rattle.std.specs.List.{IsAmong}
use Rattle.ea_base.specs.declared.limits.TheConstants.{HORIZON}
use Rattle.ea_road.specs.declared.TheConstants.{NONE}
use Rattle.ea_road.specs.declared.arc.Arc.{Arc}
use Rattle.ea_road.specs.declared.source.Source.{Source}
use Rattle.ea_road.specs.Roads.{Roads, IsArc, IsNode, leaving}
use Rattle.ea_road.specs.Arrivals.{Reaches}
use Rattle.ea_road.specs.Queries.{Asking}
use Rattle.ea_road.specs.Labels.{limit}
use Rattle.ea_search.specs.Underway.{bound_of}

-- The arc with this number leads from one node to another; left at a departure, it arrives within the
-- horizon.
pub record Step
    (roads : Roads)
    (answers : ℕ → ℕ → ℕ → ℕ → Type 0)
    (node departure number head arrival : ℕ)
    : Type 0 where
  pub arc : Arc
  pub is_arc : IsArc roads number arc
  pub is_tail : arc.tail ≡ node
  pub is_head : arc.head ≡ head
  pub answer : answers arc.class arc.weight departure arrival
  pub in_time : arrival ≤ HORIZON

-- The number of the arc at this place, from 0, among those that leave a node.
abbrev pub number_at : Roads → ℕ → ℕ → ℕ
number_at roads from place = slice_index_or (leaving roads from) place 0

-- The arc at this place has this number.
abbrev pub IsPlaced : Roads → ℕ → ℕ → ℕ → Type 0
IsPlaced roads from place number = (place < length (leaving roads from)) × (number_at roads from place ≡ number)

-- A node, an arc's tail and its place are these.
abbrev pub IsArcOf : ℕ → ℕ → ℕ → ℕ → ℕ → ℕ → Type 0
IsArcOf node from place v u k = (v ≡ node) × (u ≡ from) × (k ≡ place)

-- An arrival is no earlier than the bound of its arc's head; if it equals the bound, the label was met by the
-- arc.
abbrev pub IsMet : Roads → List ℕ → (ℕ → ℕ → ℕ → Type 0) → ℕ → ℕ → ℕ → ℕ → Type 0
IsMet roads table met from number head arrival =
    (bound_of table head ≤ arrival) × (bound_of table head ≡ arrival → (place : ℕ) × IsPlaced roads from place number × met head from place)

-- Each arrival by an arc from the node, left at the time, is met.
abbrev pub MeetsAll : Roads → (ℕ → ℕ → ℕ → ℕ → Type 0) → List ℕ → (ℕ → ℕ → ℕ → Type 0) → ℕ → ℕ → Type 0
MeetsAll roads answers table met node time = (number head arrival : ℕ) → Step roads answers node time number head arrival → IsMet roads table met node number head arrival

-- What was met stays met, except for arcs at whose ends a label fell.
abbrev pub KeepsMet : List ℕ → (ℕ → ℕ → ℕ → Type 0) → List ℕ → (ℕ → ℕ → ℕ → Type 0) → Type 0
KeepsMet table met table' met' = (node from place : ℕ) → bound_of table' node ≡ bound_of table node → bound_of table' from ≡ bound_of table from → met node from place → met' node from place

-- A label that didn't fall has the arcs that it had, or new ones; a label that fell has new ones.
abbrev pub AddsHad : (ℕ → ℕ → ℕ → Type 0) → List ℕ → (ℕ → ℕ → ℕ → Type 0) → List ℕ → (ℕ → ℕ → ℕ → Type 0) → Type 0
AddsHad new table had table' had' = (node from place : ℕ) → had' node from place → ((bound_of table' node ≡ bound_of table node) × had node from place) ⊎ new node from place

-- A label is this time, and has this arc.
abbrev pub IsHadAt : ℕ → ℕ → ℕ → ℕ → List ℕ → ℕ → ℕ → ℕ → Type 0
IsHadAt node from place time table v u k = IsArcOf node from place v u k × (bound_of table node ≡ time)

-- A time was offered to a node: its label is the lesser of both, and if it fell, the node waits. Waiting
-- nodes still wait.
pub record KeepsLess
    (node time : ℕ)
    (table : List ℕ)
    (waits : ℕ → Type 0)
    (table' : List ℕ)
    (waits' : ℕ → Type 0)
    : Type 0 where
  pub places : length table' ≡ length table
  pub least : bound_of table' node ≡ min time (bound_of table node)
  pub others : (other : ℕ) → other ≢ node → bound_of table' other ≡ bound_of table other
  pub opened : time < bound_of table node → waits' node
  pub kept : (other : ℕ) → waits other → waits' other

-- The arcs with these numbers from a node were relaxed at a departure: labels only fell, each to an arrival
-- by one of them, and each node whose label fell waits.
pub record Scanned
    (roads : Roads)
    (answers : ℕ → ℕ → ℕ → ℕ → Type 0)
    (node departure : ℕ)
    (numbers table : List ℕ)
    (waits : ℕ → Type 0)
    (met : ℕ → ℕ → ℕ → Type 0)
    (table' : List ℕ)
    (waits' : ℕ → Type 0)
    (met' : ℕ → ℕ → ℕ → Type 0)
    : Type 0 where
  pub places : length table' ≡ length table
  pub lower : (other : ℕ) → bound_of table' other ≤ bound_of table other
  pub fallen : (other : ℕ) → bound_of table' other < bound_of table other → waits' other × ((number : ℕ) × Step roads answers node departure number other (bound_of table' other))
  pub kept : (other : ℕ) → waits other → waits' other
  pub passed : (number head arrival : ℕ) → Contains numbers number → Step roads answers node departure number head arrival → bound_of table' head ≤ arrival
  pub meets : bound_of table' node ≡ bound_of table node → (number head arrival : ℕ) → Contains numbers number → Step roads answers node departure number head arrival → IsMet roads table' met' node number head arrival
  pub still : KeepsMet table met table' met'

-- Only the waiting nodes are left to scan, for these sources and this target. `IsUnderway` in the form in
-- which the pass is proved, for any kind of waiting list.
pub record AwaitsScansFrom
    (roads : Roads)
    (answers : ℕ → ℕ → ℕ → ℕ → Type 0)
    (sources : List Source)
    (target : Option ℕ)
    (table : List ℕ)
    (met : ℕ → ℕ → ℕ → Type 0)
    (waits : ℕ → Type 0)
    : Type 0 where
  pub places : length table ≡ roads.nodes
  pub reached : (v : ℕ) → bound_of table v ≢ NONE → Reaches roads answers sources v (bound_of table v)
  pub started : (s : Source) → IsAmong sources s → bound_of table s.node ≤ s.departure
  pub settled : (v : ℕ) → bound_of table v ≢ NONE → MeetsAll roads answers table met v (bound_of table v) ⊎ (waits v ⊎ (limit target (bound_of table) < bound_of table v))

-- The same for the sources and the target of a query.
abbrev pub AwaitsScans : Roads → (ℕ → ℕ → ℕ → ℕ → Type 0) → Asking → List ℕ → (ℕ → ℕ → ℕ → Type 0) → (ℕ → Type 0) → Type 0
AwaitsScans roads answers query table met waits = AwaitsScansFrom roads answers query.sources query.target table met waits

-- An arc that arrives at the node and is left no later than a time.
pub record IsLeftBy
    (roads : Roads)
    (answers : ℕ → ℕ → ℕ → ℕ → Type 0)
    (last node arrival : ℕ)
    : Type 0 where
  pub from : ℕ
  pub departure : ℕ
  pub number : ℕ
  pub in_time : departure ≤ last
  pub step : Step roads answers from departure number node arrival

-- Labels only fell, each to an arrival by an arc left no later than a time.
pub record FallsBy
    (roads : Roads)
    (answers : ℕ → ℕ → ℕ → ℕ → Type 0)
    (last : ℕ)
    (label label' : ℕ → ℕ)
    : Type 0 where
  pub lower : (node : ℕ) → IsNode roads.nodes node → label' node ≤ label node
  pub fallen : (node : ℕ) → IsNode roads.nodes node → label' node < label node → IsLeftBy roads answers last node (label' node)
