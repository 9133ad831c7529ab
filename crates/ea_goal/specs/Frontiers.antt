-- The open nodes of a search that is led by bounds.
use Rattle.std.specs.Prelude.{◌≡◌, ◌⊎◌, ℕ, ◌+◌, ◌-◌, ◌<◌, ◌≤◌, List, Contains, length}
use Rattle.ea_goal.specs.declared.frontier.Entry.{Entry}
use Rattle.ea_goal.specs.declared.frontier.TheConstants.{FARTHEST}

-- A node waits with a label.
pub record Waits (entries : List Entry) (label node : ℕ) : Type 0 where
  pub nearness : ℕ
  pub there : Contains entries (record { nearness = nearness; label = label; node = node })

-- The key of an entry is at most its label and the bound of its node together.
abbrev pub IsKeyed : (ℕ → ℕ) → Entry → Type 0
IsKeyed bound entry = FARTHEST - entry.nearness ≤ entry.label + bound entry.node

abbrev pub AreKeyed : (ℕ → ℕ) → List Entry → Type 0
AreKeyed bound entries = (entry : Entry) → Contains entries entry → IsKeyed bound entry

-- A node is opened with a label and a key.
pub record Opens (entries after : List Entry) (label node key : ℕ) : Type 0 where
  pub there : Waits after label node
  pub kept : (time other : ℕ) → Waits entries time other → Waits after time other
  pub came : (time other : ℕ) → Waits after time other → Waits entries time other ⊎ ((time ≡ label) × (other ≡ node))
  pub keyed : (bound : ℕ → ℕ) → key ≤ label + bound node → AreKeyed bound entries → AreKeyed bound after
  pub long : length after ≡ length entries + 1

-- An entry is taken.
pub record Takes (entries after : List Entry) (entry : Entry) : Type 0 where
  pub here : Contains entries entry
  pub rest : (time other : ℕ) → Waits entries time other → Waits after time other ⊎ ((time ≡ entry.label) × (other ≡ entry.node))
  pub fewer : (other : Entry) → Contains after other → Contains entries other
  pub long : length after + 1 ≡ length entries

-- The keys of all entries are above a label.
abbrev pub AreBeyond : ℕ → List Entry → Type 0
AreBeyond last entries = (entry : Entry) → Contains entries entry → last < FARTHEST - entry.nearness

-- Entries whose keys are above a label are dropped.
pub record Closes (last : ℕ) (entries after : List Entry) : Type 0 where
  pub rest : (entry : Entry) → Contains entries entry → Contains after entry ⊎ (last < FARTHEST - entry.nearness)
  pub fewer : (entry : Entry) → Contains after entry → Contains entries entry
  pub long : length after ≤ length entries
