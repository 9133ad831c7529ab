-- How the calls of a table change its labels and what is recorded beside them.
use Rattle.std.specs.Prelude.{◌≡◌, ◌≢◌, ℕ, ◌-◌, ◌<◌, ◌≤◌, List, length, set, ◌⊎◌}
use Rattle.ea_base.specs.declared.limits.TheConstants.{HORIZON}
use Rattle.ea_search.specs.Listings.{KeepsListed}
use Rattle.ea_search.specs.Scans.{IsArcOf}

-- A node with a place in the table, and a time within the horizon: its label may fall to the time.
pub record CanFallTo (table : List ℕ) (node time : ℕ) : Type 0 where
  pub is_node : (0 < node) × (node ≤ length table)
  pub in_time : time ≤ HORIZON

-- A node's label was set to a time, and the node is listed as reached.
pub record SetsLabel (node time : ℕ) (table : List ℕ) (lists : ℕ → Type 0) (table' : List ℕ) (lists' : ℕ → Type 0) : Type 0 where
  pub labels : table' ≡ set table (node - 1) time
  pub there : lists' node
  pub kept : KeepsListed lists lists'

-- A source's node got its label from no arc.
pub record NotesStart (node : ℕ) (met had met' had' : ℕ → ℕ → ℕ → Type 0) : Type 0 where
  pub still : (v u k : ℕ) → v ≢ node → u ≢ node → met v u k → met' v u k
  pub adds : (v u k : ℕ) → had' v u k → had v u k

-- A label fell by an arc: the node has its label from this arc alone, and met arcs stay met but for those at
-- the node.
pub record NotesFall (node from place : ℕ) (met had met' had' : ℕ → ℕ → ℕ → Type 0) : Type 0 where
  pub meets : met' node from place
  pub still : (v u k : ℕ) → v ≢ node → u ≢ node → met v u k → met' v u k
  pub adds : (v u k : ℕ) → had' v u k → IsArcOf node from place v u k ⊎ ((v ≢ node) × had v u k)

-- A label was met by an arc: the node has its label from this arc too, and met arcs stay met.
pub record NotesMeeting (node from place : ℕ) (met had met' had' : ℕ → ℕ → ℕ → Type 0) : Type 0 where
  pub meets : met' node from place
  pub still : (v u k : ℕ) → met v u k → met' v u k
  pub adds : (v u k : ℕ) → had' v u k → IsArcOf node from place v u k ⊎ had v u k
