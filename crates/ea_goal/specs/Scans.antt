-- Labels that fall, and the nodes that are opened by it.
use Rattle.std.specs.Prelude.{◌≡◌, ◌⊎◌, ℕ, ◌+◌, ◌<◌, ◌≤◌, List, Some, length, slice_get, sum}
use Rattle.ea_base.specs.declared.limits.TheConstants.{HORIZON}
use Rattle.ea_road.specs.Labels.{label_of}
use Rattle.ea_road.specs.Roads.{IsArc, IsNode, Roads}
use Rattle.ea_road.specs.declared.arc.Arc.{Arc}
use Rattle.ea_road.specs.declared.leaving_arc.LeavingArc.{LeavingArc}
use Rattle.ea_hierarchy.specs.declared.numbers.TheConstants.{NONE as NO_WALK}
use Rattle.ea_goal.specs.Frontiers.{AreKeyed, Waits}
use Rattle.ea_goal.specs.Led.{IsBeyond}
use Rattle.ea_goal.specs.declared.frontier.Entry.{Entry}

-- A node with a time is opened, or it is beyond the target's label, or no walk leads from it to the target.
pub record OpensNear (target_label bound : ℕ) (entries after : List Entry) (node time : ℕ) : Type 0 where
  pub there : bound < NO_WALK → Waits after time node ⊎ (target_label < time + bound)
  pub kept : (at other : ℕ) → Waits entries at other → Waits after at other
  pub came : (at other : ℕ) → Waits after at other → Waits entries at other ⊎ (other ≡ node)
  pub keyed : (bounds : ℕ → ℕ) → bounds node ≡ bound → AreKeyed bounds entries → AreKeyed bounds after
  pub long : length after ≤ length entries + 1

-- Labels only fall, what was open stays open, and a node whose label fell is open with its label, unless it is beyond the target or no
-- walk leads there.
pub record Falls (target : ℕ) (bound : ℕ → ℕ) (table : List ℕ) (entries : List Entry) (new_table : List ℕ) (new_entries : List Entry) : Type 0 where
  pub count : length new_table ≡ length table
  pub spent : sum new_table + length new_entries ≤ sum table + length entries
  pub lower : (node : ℕ) → 0 < node → label_of new_table node ≤ label_of table node
  pub kept : (time node : ℕ) → Waits entries time node → Waits new_entries time node
  pub keyed : AreKeyed bound entries → AreKeyed bound new_entries
  pub fallen : (node : ℕ) → 0 < node → label_of new_table node < label_of table node → bound node < NO_WALK → Waits new_entries (label_of new_table node) node ⊎ IsBeyond target bound (label_of new_table) node

-- One node was offered a time.
pub record Offers (target : ℕ) (bound : ℕ → ℕ) (table : List ℕ) (entries : List Entry) (new_table : List ℕ) (new_entries : List Entry) (node time : ℕ) : Type 0 where
  pub falls : Falls target bound table entries new_table new_entries
  pub here : label_of new_table node ≤ time
  pub labels : (other : ℕ) → 0 < other → (label_of new_table other ≡ label_of table other) ⊎ ((other ≡ node) × (label_of new_table other ≡ time))
  pub came : (at other : ℕ) → Waits new_entries at other → Waits entries at other ⊎ (other ≡ node)

-- An arc was left at a departure.
pub record Follows (answers : ℕ → ℕ → ℕ → ℕ → Type 0) (target : ℕ) (bound : ℕ → ℕ) (table : List ℕ) (entries : List Entry) (new_table : List ℕ) (new_entries : List Entry) (arc : Arc) (departure : ℕ) : Type 0 where
  pub falls : Falls target bound table entries new_table new_entries
  pub passed : (arrival : ℕ) → answers arc.class arc.weight departure arrival → arrival ≤ HORIZON → label_of new_table arc.head ≤ arrival
  pub labels : (other : ℕ) → 0 < other
      → (label_of new_table other ≡ label_of table other)
      ⊎ ((other ≡ arc.head) × answers arc.class arc.weight departure (label_of new_table other) × (label_of new_table other ≤ HORIZON))
  pub came : (at other : ℕ) → Waits new_entries at other → Waits entries at other ⊎ (other ≡ arc.head)

-- A label is that of before, or the arrival by an arc from a node that was left at a departure.
abbrev pub IsSameOrBy : Roads → (ℕ → ℕ → ℕ → ℕ → Type 0) → ℕ → ℕ → List ℕ → List ℕ → ℕ → Type 0
IsSameOrBy roads answers node departure table new_table other =
    (label_of new_table other ≡ label_of table other)
    ⊎ ((number : ℕ) × (arc : Arc) × IsArc roads number arc × (arc.tail ≡ node) × (arc.head ≡ other) × answers arc.class arc.weight departure (label_of new_table other) × (label_of new_table other ≤ HORIZON))

-- The arcs from a node were left at a departure, those at the first places beside it.
pub record ScansTo (roads : Roads) (answers : ℕ → ℕ → ℕ → ℕ → Type 0) (target : ℕ) (bound : ℕ → ℕ) (table : List ℕ) (entries : List Entry) (new_table : List ℕ) (new_entries : List Entry) (node departure : ℕ) (arcs : List LeavingArc) (to : ℕ) : Type 0 where
  pub falls : Falls target bound table entries new_table new_entries
  pub passed : (place arrival : ℕ) (arc : LeavingArc) → place < to → slice_get arcs place ≡ Some arc → answers arc.class arc.weight departure arrival → arrival ≤ HORIZON → label_of new_table arc.head ≤ arrival
  pub labels : (other : ℕ) → 0 < other → IsSameOrBy roads answers node departure table new_table other
  pub came : (at other : ℕ) → Waits new_entries at other → Waits entries at other ⊎ IsNode roads.nodes other

-- All arcs from a node were left at a departure.
pub record Scans (roads : Roads) (answers : ℕ → ℕ → ℕ → ℕ → Type 0) (target : ℕ) (bound : ℕ → ℕ) (table : List ℕ) (entries : List Entry) (new_table : List ℕ) (new_entries : List Entry) (node departure : ℕ) : Type 0 where
  pub falls : Falls target bound table entries new_table new_entries
  pub passed : (number arrival : ℕ) (arc : Arc) → IsArc roads number arc → arc.tail ≡ node → answers arc.class arc.weight departure arrival → arrival ≤ HORIZON → label_of new_table arc.head ≤ arrival
  pub labels : (other : ℕ) → 0 < other → IsSameOrBy roads answers node departure table new_table other
  pub came : (at other : ℕ) → Waits new_entries at other → Waits entries at other ⊎ IsNode roads.nodes other
