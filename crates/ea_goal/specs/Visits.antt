-- An open node is visited.
use Rattle.std.specs.Prelude.{◌≡◌, ◌⊎◌, ℕ, ◌+◌, ◌≤◌, List, length, sum}
use Rattle.std.specs.List.{IsAmong}
use Rattle.ea_road.specs.declared.source.Source.{Source}
use Rattle.ea_road.specs.Labels.{label_of}
use Rattle.ea_road.specs.Roads.{IsNode, Roads}
use Rattle.ea_search.specs.Listings.{AreLabelsListed, IsListed}
use Rattle.ea_search.specs.declared.labels.table.Reached.{Reached}
use Rattle.ea_goal.specs.Frontiers.{AreKeyed, Waits}
use Rattle.ea_goal.specs.Led.{IsLed}
use Rattle.ea_goal.specs.declared.frontier.Entry.{Entry}

-- A node waits, or is that of an entry that was taken.
abbrev pub IsOpen : List Entry → Entry → ℕ → ℕ → Type 0
IsOpen entries entry time node = Waits entries time node ⊎ ((time ≡ entry.label) × (node ≡ entry.node))

-- Sources are nodes.
abbrev pub AreSourceNodes : ℕ → List Source → Type 0
AreSourceNodes nodes sources = (source : Source) → IsAmong sources source → IsNode nodes source.node

-- What was led stays so without the entry.
pub record Visits (roads : Roads) (answers : ℕ → ℕ → ℕ → ℕ → Type 0) (target : ℕ) (bound : ℕ → ℕ) (table : List ℕ) (entries : List Entry) (new_table : List ℕ) (new_entries : List Entry) (entry : Entry) : Type 0 where
  pub count : length new_table ≡ length table
  pub spent : sum new_table + length new_entries ≤ sum table + length entries
  pub came : (at other : ℕ) → Waits new_entries at other → Waits entries at other ⊎ IsNode roads.nodes other
  pub keyed : AreKeyed bound entries → AreKeyed bound new_entries
  pub led : (sources : List Source) → AreSourceNodes roads.nodes sources → IsLed roads answers sources target bound (label_of table) (IsOpen entries entry)
      → IsLed roads answers sources target bound (label_of new_table) (Waits new_entries)

-- Open nodes are nodes.
abbrev pub AreOpenNodes : ℕ → List Entry → Type 0
AreOpenNodes nodes entries = (at node : ℕ) → Waits entries at node → IsNode nodes node

-- What was led stays so while open nodes are visited.
pub record Leads (roads : Roads) (answers : ℕ → ℕ → ℕ → ℕ → Type 0) (target : ℕ) (bound : ℕ → ℕ) (table : List ℕ) (entries : List Entry) (new_table : List ℕ) (new_entries : List Entry) : Type 0 where
  pub count : length new_table ≡ length table
  pub nodes : AreOpenNodes roads.nodes new_entries
  pub keyed : AreKeyed bound new_entries
  pub led : (sources : List Source) → AreSourceNodes roads.nodes sources → IsLed roads answers sources target bound (label_of table) (Waits entries)
      → IsLed roads answers sources target bound (label_of new_table) (Waits new_entries)

-- And at the end none is open.
pub record Ends (roads : Roads) (answers : ℕ → ℕ → ℕ → ℕ → Type 0) (target : ℕ) (bound : ℕ → ℕ) (table : List ℕ) (entries : List Entry) (new_table : List ℕ) (new_entries : List Entry) : Type 0 where
  pub leads : Leads roads answers target bound table entries new_table new_entries
  pub none : length new_entries ≡ 0

-- There are as many labels as before; if each node with a label was listed, each is.
pub record KeepsReached (table after : Reached) : Type 0 where
  pub count : length after.labels.items ≡ length table.labels.items
  pub listed : AreLabelsListed table.labels.items (IsListed table.listed) → AreLabelsListed after.labels.items (IsListed after.listed)
