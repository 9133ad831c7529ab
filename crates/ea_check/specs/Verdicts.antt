-- The faults of a report's lines on one problem. The reported times are a table of labels: tight arcs, levels
-- and canonical walks are those of that table.
use Rattle.std.specs.Prelude.{◌≡◌, ◌≢◌, ℕ, ◌-◌, ◌<◌, ◌≤◌, List, length, map, slice_get, Option, Some, Result, Ok, Err}
use Rattle.std.specs.List.{IsAmong}
use Rattle.ea_base.specs.declared.limits.TheConstants.{HORIZON}
use Rattle.ea_road.specs.declared.TheConstants.{NONE}
use Rattle.ea_road.specs.declared.arc.Arc.{Arc}
use Rattle.ea_road.specs.declared.source.Source.{Source}
use Rattle.ea_road.specs.Roads.{Roads, IsArc, IsNode, IsNetwork, top_class}
use Rattle.ea_road.specs.Arrivals.{Attains, IsLeast, IsLeastAt}
use Rattle.ea_road.specs.Labels.{IsLabel, label_of, time_of}
use Rattle.ea_road.specs.Levels.{HasChain, IsCanonical}
use Rattle.ea_check.specs.declared.fault.CheckFault.{CheckFault}
use Rattle.ea_check.specs.declared.fault.CheckFault.TheVariants.{BadLine, NotAttained, NotLeast, OutOfMemory, NotCanonical}

-- A `w` line: its number, and its arc numbers.
pub record WrittenWalk : Type 0 where
  pub line : ℕ
  pub arcs : List ℕ

-- A report's lines on a node: the number of its `d` line, its time or NONE, and its `w` line if there is one.
pub record Said : Type 0 where
  pub line : ℕ
  pub time : ℕ
  pub walk : Option WrittenWalk

-- A report's lines on the nodes of one problem, the first those of node 1.
abbrev pub IsSaid : List Said → ℕ → Said → Type 0
IsSaid reported node said = (0 < node) × (slice_get reported (node - 1) ≡ Some said)

-- The reported times as a table of labels.
abbrev pub times_of : List Said → List ℕ
times_of reported = map (λ said. said.time) reported

abbrev pub reported_time : List Said → ℕ → ℕ
reported_time reported node = label_of (times_of reported) node

-- The node's reported time is this.
abbrev pub IsReported : List Said → ℕ → ℕ → Type 0
IsReported reported = IsLabel (reported_time reported)

-- A source at the node departs before the node's reported time, or an arc from a node that has a reported
-- time, left at it, arrives at the node within the horizon and before the node's reported time.
pub data Improves
    (roads : Roads)
    (answers : ℕ → ℕ → ℕ → ℕ → Type 0)
    (sources : List Source)
    (label : ℕ → ℕ)
    : ℕ → Type 0 where
  by_source : {source : Source} → IsAmong sources source → source.departure < label source.node → Improves roads answers sources label source.node
  by_arc : {number arrival : ℕ} {arc : Arc} → IsArc roads number arc → label arc.tail ≤ HORIZON → answers arc.class arc.weight (label arc.tail) arrival → arrival ≤ HORIZON → arrival < label arc.head → Improves roads answers sources label arc.head

-- A line of a node that is not attained: a `d` line with a time although the node has no reported level, or a
-- `w` line whose arcs do not attain the reported time.
pub data IsNotAttained
    (roads : Roads)
    (answers : ℕ → ℕ → ℕ → ℕ → Type 0)
    (sources : List Source)
    (reported : List Said)
    (node : ℕ)
    : ℕ → Type 0 where
  no_level : {said : Said} → IsSaid reported node said → said.time ≢ NONE → ((count : ℕ) → HasChain roads answers sources (IsReported reported) node count → ⊥) → IsNotAttained roads answers sources reported node said.line
  astray : {said : Said} {walk : WrittenWalk} → IsSaid reported node said → said.walk ≡ Some walk → (Attains roads answers sources walk.arcs node said.time → ⊥) → IsNotAttained roads answers sources reported node walk.line

-- A `w` line of a node that is not the canonical walk.
pub data IsNotCanonical
    (roads : Roads)
    (answers : ℕ → ℕ → ℕ → ℕ → Type 0)
    (sources : List Source)
    (reported : List Said)
    (node : ℕ)
    : ℕ → Type 0 where
  other_walk : {said : Said} {walk : WrittenWalk} → IsSaid reported node said → said.walk ≡ Some walk → (IsCanonical roads answers sources (IsReported reported) node walk.arcs → ⊥) → IsNotCanonical roads answers sources reported node walk.line

-- A `d` line of a node whose time a source or an arc improves.
pub data IsNotLeast
    (roads : Roads)
    (answers : ℕ → ℕ → ℕ → ℕ → Type 0)
    (sources : List Source)
    (reported : List Said)
    (node : ℕ)
    : ℕ → Type 0 where
  improved : {said : Said} → IsSaid reported node said → Improves roads answers sources (reported_time reported) node → IsNotLeast roads answers sources reported node said.line

-- A node whose lines are attained: its reported time has a reported level, and its written walk attains the
-- time.
pub record IsAttained
    (roads : Roads)
    (answers : ℕ → ℕ → ℕ → ℕ → Type 0)
    (sources : List Source)
    (reported : List Said)
    (node : ℕ)
    : Type 0 where
  pub level : (said : Said) → IsSaid reported node said → said.time ≢ NONE → (count : ℕ) × HasChain roads answers sources (IsReported reported) node count
  pub walk : (said : Said) (walk : WrittenWalk) → IsSaid reported node said → said.walk ≡ Some walk → Attains roads answers sources walk.arcs node said.time

abbrev pub AreAttained : Roads → (ℕ → ℕ → ℕ → ℕ → Type 0) → List Source → List Said → Type 0
AreAttained roads answers sources reported = (node : ℕ) → IsAttained roads answers sources reported node

-- A node whose written walk is the canonical one of the reported times.
abbrev pub IsCanonicalAt : Roads → (ℕ → ℕ → ℕ → ℕ → Type 0) → List Source → List Said → ℕ → Type 0
IsCanonicalAt roads answers sources reported node =
    (said : Said) (walk : WrittenWalk) → IsSaid reported node said → said.walk ≡ Some walk → IsCanonical roads answers sources (IsReported reported) node walk.arcs

abbrev pub AreCanonical : Roads → (ℕ → ℕ → ℕ → ℕ → Type 0) → List Source → List Said → Type 0
AreCanonical roads answers sources reported = (node : ℕ) → IsCanonicalAt roads answers sources reported node

-- No source and no arc improves a reported time.
abbrev pub AreUnimproved : Roads → (ℕ → ℕ → ℕ → ℕ → Type 0) → List Source → List Said → Type 0
AreUnimproved roads answers sources reported =
    (node : ℕ) → IsNode roads.nodes node → Improves roads answers sources (reported_time reported) node → ⊥

-- A report of one problem without a fault.
pub record IsFaultless
    (roads : Roads)
    (answers : ℕ → ℕ → ℕ → ℕ → Type 0)
    (sources : List Source)
    (reported : List Said)
    : Type 0 where
  pub attained : AreAttained roads answers sources reported
  pub canonical : AreCanonical roads answers sources reported
  pub unimproved : AreUnimproved roads answers sources reported

-- A right report of one problem: each time is the least arrival, or none if nothing arrives, and each written
-- walk is the canonical walk to the node over the least arrivals.
pub record IsRight
    (roads : Roads)
    (answers : ℕ → ℕ → ℕ → ℕ → Type 0)
    (sources : List Source)
    (reported : List Said)
    : Type 0 where
  pub least : (node : ℕ) (said : Said) → IsSaid reported node said → IsLeast roads answers sources node (time_of said.time)
  pub walks : (node : ℕ) (said : Said) (walk : WrittenWalk) → IsSaid reported node said → said.walk ≡ Some walk → IsCanonical roads answers sources (IsLeastAt roads answers sources) node walk.arcs

-- A line on a node.
pub data IsLineOf (reported : List Said) (node : ℕ) : ℕ → Type 0 where
  time_line : {said : Said} → IsSaid reported node said → IsLineOf reported node said.line
  walk_line : {said : Said} {walk : WrittenWalk} → IsSaid reported node said → said.walk ≡ Some walk → IsLineOf reported node walk.line

-- What the form of a report ensures: one time for each node, within the horizon or NONE; a walk only with a
-- time and in a later line; and the lines in the order of the nodes.
pub record IsWellFormed (nodes : ℕ) (reported : List Said) : Type 0 where
  pub each_node : length reported ≡ nodes
  pub times : (node : ℕ) (said : Said) → IsSaid reported node said → said.time ≢ NONE → said.time ≤ HORIZON
  pub walks : (node : ℕ) (said : Said) (walk : WrittenWalk) → IsSaid reported node said → said.walk ≡ Some walk → (said.time ≢ NONE) × (said.line < walk.line)
  pub in_order : (node later line next : ℕ) → node < later → IsLineOf reported node line → IsLineOf reported later next → line < next

-- The first line with a fault of a sort.
pub record IsFirst (IsFault : ℕ → ℕ → Type 0) (line : ℕ) : Type 0 where
  pub node : ℕ
  pub fault : IsFault node line
  pub first : (other next : ℕ) → IsFault other next → line ≤ next

-- The conditions of a problem that asks all nodes: the network's limits, travel times for each arc's class,
-- and sources that are nodes and depart within the horizon.
pub record IsTask (roads : Roads) (classes : ℕ) (sources : List Source) : Type 0 where
  pub network : IsNetwork roads
  pub classed : top_class roads.arcs ≤ classes
  pub starts : (source : Source) → IsAmong sources source → IsNode roads.nodes source.node × (source.departure ≤ HORIZON)

-- The lines of a problem can be judged: it is a task, and their form is right.
pub record MayJudge (roads : Roads) (classes : ℕ) (sources : List Source) (reported : List Said) : Type 0 where
  pub task : IsTask roads classes sources
  pub formed : IsWellFormed roads.nodes reported

-- The verdict on a problem whose form is right.
abbrev pub IsVerdict : Roads → (ℕ → ℕ → ℕ → ℕ → Type 0) → List Source → List Said → Result (Unit {0}) CheckFault → Type 0
IsVerdict roads answers sources reported (Ok _) = IsFaultless roads answers sources reported
IsVerdict roads answers sources reported (Err (NotAttained line)) = IsFirst (IsNotAttained roads answers sources reported) line
IsVerdict roads answers sources reported (Err (NotCanonical line)) =
    AreAttained roads answers sources reported × IsFirst (IsNotCanonical roads answers sources reported) line
IsVerdict roads answers sources reported (Err (NotLeast line)) =
    AreAttained roads answers sources reported × AreCanonical roads answers sources reported × IsFirst (IsNotLeast roads answers sources reported) line
IsVerdict roads answers sources reported (Err (BadLine line)) = ⊥
IsVerdict roads answers sources reported (Err OutOfMemory) = Unit {0}
