-- The open nodes of a search without bounds. Its rules are those of a search that is led by bounds, all of which are 0.
use Rattle.std.specs.Prelude.{ℕ, ◌-◌, ◌<◌, ◌≤◌, List, Contains}
use Rattle.ea_goal.specs.Frontiers.{Waits}
use Rattle.ea_goal.specs.declared.frontier.Entry.{Entry as Met}
use Rattle.ea_road.specs.declared.TheConstants.{NONE}
use Rattle.ea_road.specs.Labels.{label_of}
use Rattle.ea_asked.specs.declared.frontier.Entry.{Entry}

-- The bound of each node.
abbrev pub no_bound : ℕ → ℕ
no_bound node = 0

-- An entry as those rules have it: its label is its key.
abbrev pub met : Entry → Met
met entry = record { nearness = NONE - entry.label; label = entry.label; node = entry.node }

-- The label of an entry isn't below a time.
abbrev pub IsFrom : ℕ → Entry → Type 0
IsFrom least entry = least ≤ entry.label

-- No open node has a label below this one.
abbrev pub AreFrom : ℕ → List Met → Type 0
AreFrom least entries = (label node : ℕ) → Waits entries label node → least ≤ label

-- The label of each asked node is below those of all open nodes.
abbrev pub IsOver : List ℕ → List Met → List ℕ → Type 0
IsOver table entries asked = (label node other : ℕ) → Waits entries label node → Contains asked other → label_of table other < label
