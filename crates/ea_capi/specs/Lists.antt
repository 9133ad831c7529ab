-- The outcomes of a call that makes a road from lists.
use Rattle.std.specs.Prelude.{◌≡◌, ◌⊎◌, ◌≤◌, ℕ, zero, suc, List, [], ◌∷◌, ◌++◌, length, Option, Some, slice_get, slice_index, unwrap_or}
use Rattle.ea_input.specs.Table.{Table}
use Rattle.ea_road.specs.declared.arc.Arc.{Arc}
use Rattle.ea_road.specs.Roads.{IsNetwork, Roads, top_class}
use Rattle.ea_base.specs.declared.direction.Direction.TheVariants.{Forward}
use Rattle.ea_travel_times.specs.StepLists.{steps_in}
use Rattle.ea_load.specs.declared.road.Road.{Road}
use Rattle.ea_load.specs.declared.file_fault.FileFault.{FileFault}
use Rattle.ea_load.specs.Given.{IsTableOf}
use Rattle.ea_load.specs.Texts.{IsTableFault, text_if_any}
use Rattle.ea_capi.specs.declared.handle.content.Content.{Content}
use Rattle.ea_capi.specs.declared.road.arc_lists.ArcColumns.{ArcColumns}
use Rattle.ea_capi.specs.declared.fault_numbers.Fault.{Fault}
use Rattle.ea_capi.specs.Checks.{refused_by}
use Rattle.ea_capi.specs.Faults.{told, no_fault}
use Rattle.ea_capi.specs.States.{road_in}

-- The lists of a network's arcs: tails, heads, weights, and classes. A missing class is 0.
pub record ArcLists : Type 0 where
  pub tails : List ℕ
  pub heads : List ℕ
  pub weights : List ℕ
  pub classes : List ℕ

abbrev pub arc_lists : ArcColumns → ArcLists
arc_lists lists = record { tails = lists.tails.now; heads = lists.heads.now; weights = lists.weights.now; classes = lists.classes.now }

-- The lists have one length; that of classes may be empty.
pub record AreEven (lists : ArcLists) : Type 0 where
  pub heads : length lists.heads ≡ length lists.tails
  pub weights : length lists.weights ≡ length lists.tails
  pub classes : (length lists.classes ≡ 0) ⊎ (length lists.classes ≡ length lists.tails)

-- The arc at a place.
abbrev pub arc_at : ℕ → ArcLists → Arc
arc_at i lists = record {
  tail = slice_index lists.tails i;
  head = slice_index lists.heads i;
  weight = slice_index lists.weights i;
  class = unwrap_or (slice_get lists.classes i) 0;
}

-- The first arcs, this many, in their order.
abbrev pub arcs_to : ℕ → ArcLists → List Arc
arcs_to zero lists = []
arcs_to (suc i) lists = arcs_to i lists ++ arc_at i lists ∷ []

-- The network of this many nodes and all these arcs.
abbrev pub network_of : ℕ → ArcLists → Roads
network_of nodes lists = record { nodes = nodes; arcs = arcs_to (length lists.tails) lists }

-- The road has this network, and the kinds of a text of timetables that assigns no classes.
pub record IsRoadWith (network : Roads) (tp : List ℕ) (road : Road) : Type 0 where
  pub same : road.network ≡ network
  pub table : Table
  pub denoted : IsTableOf 0 (text_if_any tp) table
  pub forward : road.times.direction ≡ Forward
  pub kinds : road.times.tables.list.items ≡ table.kinds
  pub steps : steps_in road.times.tables.steps ≡ table.steps

-- Why a network and a text of timetables make no road: the text has a fault; a class is missing; or memory
-- was refused.
pub data IsNoRoadWith (network : Roads) (tp : List ℕ) (fault : Fault) : Type 0 where
  no_table : (found : FileFault) → IsTableFault 0 tp found → fault ≡ told found → IsNoRoadWith network tp fault
  no_class : (table : Table) → IsTableOf 0 (text_if_any tp) table → (top_class network.arcs ≤ length table.kinds → ⊥) → fault ≡ record { line = 0; number = 6; text = 2 } → IsNoRoadWith network tp fault
  no_memory : fault ≡ refused_by 13 → IsNoRoadWith network tp fault

-- The same for lists, which need one length.
pub record IsRoadOfLists (nodes : ℕ) (lists : ArcLists) (tp : List ℕ) (road : Road) : Type 0 where
  pub even : AreEven lists
  pub joined : IsRoadWith (network_of nodes lists) tp road

-- Why lists make no road, in this order: their lengths differ; they make no network; the network makes no
-- road with the timetables, or memory was refused.
pub data IsNoRoad (nodes : ℕ) (lists : ArcLists) (tp : List ℕ) (fault : Fault) : Type 0 where
  uneven : (AreEven lists → ⊥) → fault ≡ refused_by 23 → IsNoRoad nodes lists tp fault
  no_network : AreEven lists → (IsNetwork (network_of nodes lists) → ⊥) → fault.number ≡ 6 → fault.text ≡ 1 → IsNoRoad nodes lists tp fault
  no_road : AreEven lists → IsNetwork (network_of nodes lists) → IsNoRoadWith (network_of nodes lists) tp fault → IsNoRoad nodes lists tp fault
  no_room : AreEven lists → fault ≡ refused_by 13 → IsNoRoad nodes lists tp fault

-- The handle holds the road of the lists; or it is unchanged, and the fault says why.
pub data IsMade (nodes : ℕ) (lists : ArcLists) (tp : List ℕ) (old new : Option Content) (fault : Fault) : Type 0 where
  made : (road : Road) → IsRoadOfLists nodes lists tp road → road_in new ≡ Some road → fault ≡ no_fault → IsMade nodes lists tp old new fault
  refused : IsNoRoad nodes lists tp fault → new ≡ old → IsMade nodes lists tp old new fault
