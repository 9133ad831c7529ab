-- Candidates: arrivals of scans before they are offered, and the effect of offering them.
use Rattle.std.specs.Prelude.{◌≡◌, ℕ, ◌<◌, ◌≤◌, List, Option, Some, length, Contains, ◌⊎◌}
use Rattle.ea_road.specs.Roads.{Roads}
use Rattle.ea_search.specs.declared.buckets.candidates.Candidate.{Candidate}
use Rattle.ea_search.specs.Frontiers.{Frontage, WaitsAt, entries_in}
use Rattle.ea_search.specs.Scans.{AddsHad, IsPlaced, KeepsMet, Step}
use Rattle.ea_search.specs.Underway.{bound_of}

-- The arrival at a node by an arc is among candidates.
abbrev pub IsAmongThem : Roads → List Candidate → ℕ → ℕ → ℕ → ℕ → Type 0
IsAmongThem roads candidates from number head arrival =
    (place : ℕ) × IsPlaced roads from place number × Contains candidates (record { time = arrival; node = head; from = from; place = place })

-- The arcs with these numbers from a node, left at a departure, were gathered: earlier candidates stay, new
-- ones are arrivals by such an arc, and each arrival is a candidate or later than the bound of the arc's
-- head.
pub record Gathered
    (roads : Roads)
    (answers : ℕ → ℕ → ℕ → ℕ → Type 0)
    (node departure : ℕ)
    (numbers table : List ℕ)
    (before after : List Candidate)
    : Type 0 where
  pub kept : (c : Candidate) → Contains before c → Contains after c
  pub came : (c : Candidate) → Contains after c → Contains before c ⊎ ((c.from ≡ node) × (number : ℕ) × IsPlaced roads node c.place number × Step roads answers node departure number c.node c.time)
  pub passed : (number head arrival : ℕ) → Contains numbers number → Step roads answers node departure number head arrival → (bound_of table head < arrival) ⊎ IsAmongThem roads after node number head arrival

-- Each arc from the node, left at its label, arrives later than the bound of its head, or its arrival is a
-- candidate.
abbrev pub IsPending : Roads → (ℕ → ℕ → ℕ → ℕ → Type 0) → List ℕ → List Candidate → ℕ → Type 0
IsPending roads answers table candidates node = (number head arrival : ℕ) → Step roads answers node (bound_of table node) number head arrival → (bound_of table head < arrival) ⊎ IsAmongThem roads candidates node number head arrival

-- A candidate's time is an arrival by an arc left at its tail's label, which is at most a time.
pub record IsHadBy
    (roads : Roads)
    (answers : ℕ → ℕ → ℕ → ℕ → Type 0)
    (table : List ℕ)
    (last : ℕ)
    (c : Candidate)
    : Type 0 where
  pub number : ℕ
  pub placed : IsPlaced roads c.from c.place number
  pub in_time : bound_of table c.from ≤ last
  pub step : Step roads answers c.from (bound_of table c.from) number c.node c.time

abbrev pub AreHadBy : Roads → (ℕ → ℕ → ℕ → ℕ → Type 0) → List ℕ → ℕ → List Candidate → Type 0
AreHadBy roads answers table last candidates = (c : Candidate) → Contains candidates c → IsHadBy roads answers table last c

-- An entry was taken up: if it is not stale and at most a time, the node is pending.
pub record TakesUp
    (roads : Roads)
    (answers : ℕ → ℕ → ℕ → ℕ → Type 0)
    (table : List ℕ)
    (last : ℕ)
    (entry : ℕ × ℕ)
    (before after : List Candidate)
    : Type 0 where
  pub kept : (c : Candidate) → Contains before c → Contains after c
  pub had : AreHadBy roads answers table last before → AreHadBy roads answers table last after
  pub pending : (node : ℕ) → entry ≡ (bound_of table node, node) → IsPending roads answers table after node ⊎ (last < bound_of table node)

-- An entry and the hand were taken out: each node that waited is pending, still waits, has a label after a
-- time, or is the node whose candidates didn't fit.
pub record Empties
    (roads : Roads)
    (answers : ℕ → ℕ → ℕ → ℕ → Type 0)
    (table : List ℕ)
    (last : ℕ)
    (entry : ℕ × ℕ)
    (before after : Frontage)
    (candidates : List Candidate)
    (crowded : Option ℕ)
    : Type 0 where
  pub rest : (node : ℕ) → (entry ≡ (bound_of table node, node)) ⊎ WaitsAt before (bound_of table) node
      → (WaitsAt after (bound_of table) node ⊎ IsPending roads answers table candidates node) ⊎ ((crowded ≡ Some node) ⊎ (last < bound_of table node))
  pub had : AreHadBy roads answers table last candidates
  pub fewer : entries_in after ≤ entries_in before
  pub nodes : after.todo.nodes ≡ before.todo.nodes
  pub walks : after.todo.walks ≡ before.todo.walks

-- A label is the time of a candidate with this arc.
abbrev pub IsCandidate : List Candidate → List ℕ → ℕ → ℕ → ℕ → Type 0
IsCandidate candidates table node from place = Contains candidates (record { time = bound_of table node; node = node; from = from; place = place })

-- Candidates were offered to their nodes: labels only fell, each to a candidate's time, and each node whose
-- label fell waits.
pub record Offered
    (candidates : List Candidate)
    (table : List ℕ)
    (waits : ℕ → Type 0)
    (met had : ℕ → ℕ → ℕ → Type 0)
    (table' : List ℕ)
    (waits' : ℕ → Type 0)
    (met' had' : ℕ → ℕ → ℕ → Type 0)
    : Type 0 where
  pub places : length table' ≡ length table
  pub lower : (other : ℕ) → bound_of table' other ≤ bound_of table other
  pub fallen : (other : ℕ) → bound_of table' other < bound_of table other → waits' other × ((from place : ℕ) × IsCandidate candidates table' other from place)
  pub kept : (other : ℕ) → waits other → waits' other
  pub passed : (c : Candidate) → Contains candidates c → (bound_of table' c.node ≤ c.time) × (bound_of table' c.from ≡ bound_of table c.from → bound_of table' c.node ≡ c.time → met' c.node c.from c.place)
  pub still : KeepsMet table met table' met'
  pub adds : AddsHad (IsCandidate candidates table') table had table' had'
