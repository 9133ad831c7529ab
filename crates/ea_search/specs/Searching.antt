-- What a search needs, and what each step of it keeps.
use Rattle.std.specs.Prelude.{◌≡◌, ℕ, ◌+◌, ◌<◌, ◌≤◌, List, Option, length, replicate, sum}
use Rattle.ea_base.specs.declared.limits.TheConstants.{HORIZON}
use Rattle.ea_road.specs.declared.TheConstants.{NONE}
use Rattle.ea_road.specs.declared.arc.Arc.{Arc}
use Rattle.ea_road.specs.Labels.{label_of, limit}
use Rattle.ea_road.specs.Queries.{Asking, IsProblem}
use Rattle.ea_road.specs.Roads.{Roads, IsArc, IsNode, leaving, top_class}
use Rattle.ea_search.specs.Listings.{AreLabelsListed}
use Rattle.ea_search.specs.Notes.{AreHad}
use Rattle.ea_search.specs.Scans.{AddsHad, AwaitsScans, FallsBy, IsHadAt, KeepsLess, KeepsMet, number_at}
use Rattle.ea_search.specs.Tables.{CanFallTo}
use Rattle.ea_search.specs.Underway.{IsFinished, IsUnderway, bound_of}
use Rattle.ea_search.specs.Worklist.{Room, Worklist}

-- A node's label may fall to a time, and there is room for as many nodes as have labels.
pub record CanBeOffered (nodes : ℕ) (table : List ℕ) (node time : ℕ) : Type 0 where
  pub can_fall : CanFallTo table node time
  pub places : length table ≡ nodes

-- A time was offered to a node by an arc: its label is the lesser of both, and if it is the time, the arc has
-- met it.
pub record OfferedBy
    (node time from place : ℕ)
    (table : List ℕ)
    (waits : ℕ → Type 0)
    (met had : ℕ → ℕ → ℕ → Type 0)
    (table' : List ℕ)
    (waits' : ℕ → Type 0)
    (met' had' : ℕ → ℕ → ℕ → Type 0)
    : Type 0 where
  pub lowers : KeepsLess node time table waits table' waits'
  pub meets : bound_of table' node ≡ time → met' node from place
  pub still : KeepsMet table met table' met'
  pub adds : AddsHad (IsHadAt node from place time table') table had table' had'

-- The arcs that leave a node can be relaxed at a departure: the travel times have their classes, and each
-- node has a label.
pub record CanRelaxFrom (roads : Roads) (classes : ℕ) (table : List ℕ) (node departure : ℕ) : Type 0 where
  pub is_node : IsNode roads.nodes node
  pub in_time : departure ≤ HORIZON
  pub classed : top_class roads.arcs ≤ classes
  pub places : length table ≡ roads.nodes

-- The same for the arc at this place, from 0, among those that leave its tail.
pub record CanRelax (roads : Roads) (classes : ℕ) (table : List ℕ) (place : ℕ) (arc : Arc) (departure : ℕ) : Type 0 where
  pub is_arc : IsArc roads (number_at roads arc.tail place) arc
  pub placed : place < length (leaving roads arc.tail)
  pub in_time : departure ≤ HORIZON
  pub classed : top_class roads.arcs ≤ classes
  pub places : length table ≡ roads.nodes

-- What each step of a search keeps: the room, and that each node with a label is listed. It adds no work: the
-- label of a node that is opened falls by at least one.
pub record KeepsSearch
    (table : List ℕ)
    (lists : ℕ → Type 0)
    (room : Room)
    (size : ℕ)
    (table' : List ℕ)
    (lists' : ℕ → Type 0)
    (room' : Room)
    (size' : ℕ)
    : Type 0 where
  pub same_room : room' ≡ room
  pub listed : AreLabelsListed table lists → AreLabelsListed table' lists'
  pub spent : sum table' + size' ≤ sum table + size

-- The room of a list of waiting nodes stays.
pub record KeepsRoom (before after : Worklist) : Type 0 where
  pub nodes : after.nodes ≡ before.nodes
  pub walks : after.walks ≡ before.walks

-- A problem can be searched from its sources: there is room for each node, and none has a label.
pub record CanStartAnew (roads : Roads) (classes : ℕ) (query : Asking) (table : List ℕ) (nodes : ℕ) : Type 0 where
  pub problem : IsProblem roads classes query
  pub room : nodes ≡ roads.nodes
  pub none : table ≡ replicate roads.nodes NONE

-- The search of a problem can continue from labels and waiting nodes: there is room for each node, and only the
-- waiting ones are left to scan.
pub record CanSearchOn
    (roads : Roads)
    (answers : ℕ → ℕ → ℕ → ℕ → Type 0)
    (classes : ℕ)
    (query : Asking)
    (table : List ℕ)
    (met : ℕ → ℕ → ℕ → Type 0)
    (waits : ℕ → Type 0)
    (nodes : ℕ)
    : Type 0 where
  pub problem : IsProblem roads classes query
  pub room : nodes ≡ roads.nodes
  pub underway : AwaitsScans roads answers query table met waits

-- What a search that continues keeps: labels fall to arrivals by arcs that are left no later than the target's
-- label at first, they are had from arcs, and nodes that have one are listed.
pub record SearchesOn
    (roads : Roads)
    (answers : ℕ → ℕ → ℕ → ℕ → Type 0)
    (target : Option ℕ)
    (table : List ℕ)
    (lists : ℕ → Type 0)
    (had : ℕ → ℕ → ℕ → Type 0)
    (table' : List ℕ)
    (lists' : ℕ → Type 0)
    (had' : ℕ → ℕ → ℕ → Type 0)
    : Type 0 where
  pub falls : FallsBy roads answers (limit target (bound_of table)) (bound_of table) (bound_of table')
  pub listed : AreLabelsListed table lists → AreLabelsListed table' lists'
  pub are_had : AreHad roads answers table had → AreHad roads answers table' had'

-- The finishing pass can begin: nothing open is lost, and there is room for each node.
pub record CanFinish
    (roads : Roads)
    (answers : ℕ → ℕ → ℕ → ℕ → Type 0)
    (classes : ℕ)
    (query : Asking)
    (table : List ℕ)
    (todo : Worklist)
    : Type 0 where
  pub problem : IsProblem roads classes query
  pub underway : IsUnderway roads answers query table todo.waiting
  pub room : todo.nodes ≡ roads.nodes

-- The finishing pass is over: labels are least, each that fell is an arrival by an arc that is left no later
-- than the target's label at first, and storage for walks is still there if it was.
pub record FinishesFrom
    (roads : Roads)
    (answers : ℕ → ℕ → ℕ → ℕ → Type 0)
    (query : Asking)
    (table : List ℕ)
    (todo : Worklist)
    (table' : List ℕ)
    (todo' : Worklist)
    : Type 0 where
  pub finished : IsFinished roads answers query table' todo'
  pub walks : todo'.walks ≡ todo.walks
  pub beyond : FallsBy roads answers (limit query.target (label_of table)) (label_of table) (label_of table')
