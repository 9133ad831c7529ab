-- What a search for some nodes does, and what it leaves.
use Rattle.std.specs.Prelude.{◌≡◌, ℕ, ◌+◌, ◌<◌, ◌≤◌, All, List, [], Contains, OnOk, Result, length, replicate, slice_index, sum}
use Rattle.ea_goal.specs.Frontiers.{AreKeyed}
use Rattle.ea_goal.specs.Led.{IsLedTo}
use Rattle.ea_goal.specs.Scans.{Follows, Offers, Scans, ScansTo}
use Rattle.ea_goal.specs.Seeds.{AreSeeded}
use Rattle.ea_goal.specs.Visits.{AreOpenNodes, KeepsReached, Leads, Visits}
use Rattle.ea_goal.specs.declared.frontier.Entry.{Entry as Met}
use Rattle.ea_road.specs.Labels.{label_of}
use Rattle.ea_road.specs.Roads.{IsNode, Roads, top_class}
use Rattle.ea_road.specs.declared.TheConstants.{NONE}
use Rattle.ea_road.specs.declared.arc.Arc.{Arc}
use Rattle.ea_road.specs.declared.leaving_arc.LeavingArc.{LeavingArc}
use Rattle.ea_road.specs.declared.source.Source.{Source}
use Rattle.ea_search.specs.Links.{AreStarts}
use Rattle.ea_search.specs.declared.labels.table.Reached.{Reached}
use Rattle.ea_asked.specs.Open.{IsOver, no_bound}
use Rattle.ea_asked.specs.declared.passed.Passed.{Passed}
use Rattle.ea_asked.specs.declared.search.Underway.{Underway}

-- The travel times have each arc's class, and each node has a label.
pub record CanScan (roads : Roads) (classes : ℕ) (table : List ℕ) : Type 0 where
  pub classed : top_class roads.arcs ≤ classes
  pub labels : length table ≡ roads.nodes

-- Open nodes are nodes, and the key of each is at most its label.
pub record AreOpened (nodes : ℕ) (entries : List Met) : Type 0 where
  pub are_nodes : AreOpenNodes nodes entries
  pub keyed : AreKeyed no_bound entries

-- Sources at nodes, and no node that has a label or is open.
pub record CanStart (nodes : ℕ) (sources : List Source) (search : Underway) : Type 0 where
  pub starts : AreStarts nodes sources
  pub labels : search.table.labels.items ≡ replicate nodes NONE
  pub closed : search.frontier ≡ []

-- A search from sources for some nodes can begin.
pub record CanSeek (roads : Roads) (classes : ℕ) (sources : List Source) (asked : List ℕ) (search : Underway) : Type 0 where
  pub start : CanStart roads.nodes sources search
  pub are_nodes : All (IsNode roads.nodes) asked
  pub classed : top_class roads.arcs ≤ classes

-- A step of a search, which ends early if memory is refused: nodes with labels stay listed and, if it wasn't refused,
-- this was done.
pub record MakesStep {E : Type 0} (table after : Reached) (result : Result (Unit {0}) E) (what : Type 0) : Type 0 where
  pub reached : KeepsReached table after
  pub done : OnOk result what

-- The labels of the first asked nodes are below a time.
pub record IsPassed (table asked : List ℕ) (passed : Passed) : Type 0 where
  pub inside : passed.count ≤ length asked
  pub below : (place : ℕ) → place < passed.count → label_of table (slice_index asked place) < passed.time

-- Asked nodes have labels, and those of the first are below a time.
pub record CanPass (table asked : List ℕ) (passed : Passed) : Type 0 where
  pub are_nodes : All (IsNode (length table)) asked
  pub below : IsPassed table asked passed

-- Whichever node is the target: one node was offered a time.
abbrev pub OffersFor : List ℕ → List Met → List ℕ → List Met → ℕ → ℕ → Type 0
OffersFor table entries new_table new_entries node time = (target : ℕ) → 0 < target → Offers target no_bound table entries new_table new_entries node time

-- An arc was left at a departure.
abbrev pub FollowsFor : (ℕ → ℕ → ℕ → ℕ → Type 0) → List ℕ → List Met → List ℕ → List Met → Arc → ℕ → Type 0
FollowsFor answers table entries new_table new_entries arc departure = (target : ℕ) → 0 < target → Follows answers target no_bound table entries new_table new_entries arc departure

-- The first arcs from a node were left at a departure.
abbrev pub ScansToFor : Roads → (ℕ → ℕ → ℕ → ℕ → Type 0) → List ℕ → List Met → List ℕ → List Met → ℕ → ℕ → List LeavingArc → ℕ → Type 0
ScansToFor roads answers table entries new_table new_entries node departure arcs to = (target : ℕ) → 0 < target → ScansTo roads answers target no_bound table entries new_table new_entries node departure arcs to

-- All of them were.
abbrev pub ScansFor : Roads → (ℕ → ℕ → ℕ → ℕ → Type 0) → List ℕ → List Met → List ℕ → List Met → ℕ → ℕ → Type 0
ScansFor roads answers table entries new_table new_entries node departure = (target : ℕ) → 0 < target → Scans roads answers target no_bound table entries new_table new_entries node departure

-- The first sources were offered their departures.
abbrev pub AreSeededFor : ℕ → List Source → List ℕ → List Met → ℕ → Type 0
AreSeededFor nodes sources table entries count = (target : ℕ) → 0 < target → AreSeeded nodes sources target no_bound table entries count

-- An open node was visited, whichever node is the target.
pub record VisitsFor (roads : Roads) (answers : ℕ → ℕ → ℕ → ℕ → Type 0) (table : List ℕ) (entries : List Met) (new_table : List ℕ) (new_entries : List Met) (entry : Met) : Type 0 where
  pub lower : (node : ℕ) → 0 < node → label_of new_table node ≤ label_of table node
  pub spent : sum new_table + length new_entries ≤ sum table + length entries
  pub visits : (target : ℕ) → IsNode roads.nodes target → Visits roads answers target no_bound table entries new_table new_entries entry

-- Open nodes were visited, whichever node is the target.
pub record LeadsFor (roads : Roads) (answers : ℕ → ℕ → ℕ → ℕ → Type 0) (table : List ℕ) (entries : List Met) (new_table : List ℕ) (new_entries : List Met) : Type 0 where
  pub nodes : AreOpenNodes roads.nodes new_entries
  pub leads : (target : ℕ) → IsNode roads.nodes target → Leads roads answers target no_bound table entries new_table new_entries

-- And at the end the labels of the asked nodes are below those of all open nodes.
pub record EndsFor (roads : Roads) (answers : ℕ → ℕ → ℕ → ℕ → Type 0) (table : List ℕ) (entries : List Met) (new_table : List ℕ) (new_entries : List Met) (asked : List ℕ) : Type 0 where
  pub leads : LeadsFor roads answers table entries new_table new_entries
  pub over : IsOver new_table new_entries asked

-- The labels are led to each of these nodes.
abbrev pub AreLedTo : Roads → (ℕ → ℕ → ℕ → ℕ → Type 0) → List Source → List ℕ → (ℕ → ℕ) → Type 0
AreLedTo roads answers sources asked label = (node : ℕ) → Contains asked node → IsLedTo roads answers sources node label
