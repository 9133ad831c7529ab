-- The frontier of a search: unordered lists of entries, and a list of waiting nodes.
use Rattle.std.specs.Prelude.{◌≡◌, ℕ, ◌+◌, ◌<◌, ◌≤◌, List, [], ◌∷◌, length, sum_by, slice_index_or, Contains, ◌⊎◌}
use Rattle.ea_search.specs.Worklist.{Worklist}

pub record Frontage : Type 0 where
  pub lists : List (List (ℕ × ℕ))
  pub todo : Worklist

-- The entry is in some list.
abbrev pub IsIn : List (List (ℕ × ℕ)) → ℕ × ℕ → Type 0
IsIn lists entry = (place : ℕ) × (place < length lists) × Contains (slice_index_or lists place []) entry

-- The list has no entry; none of the lists has one.
abbrev pub HasNone : List (List (ℕ × ℕ)) → ℕ → Type 0
HasNone lists place = (length lists ≡ 66) × (slice_index_or lists place [] ≡ [])

abbrev pub HaveNone : List (List (ℕ × ℕ)) → Type 0
HaveNone lists = (entry : ℕ × ℕ) → IsIn lists entry → ⊥

-- The number of entries.
abbrev pub entries_in : Frontage → ℕ
entries_in frontier = sum_by (λ list. length list) frontier.lists

-- Each entry's node is within the room.
abbrev pub AreEntries : ℕ → List (List (ℕ × ℕ)) → Type 0
AreEntries nodes lists = (entry : ℕ × ℕ) → IsIn lists entry → (0 < entry.1) × (entry.1 ≤ nodes)

-- A node waits if it is in the waiting list, or has an entry with its label.
abbrev pub WaitsAt : Frontage → (ℕ → ℕ) → ℕ → Type 0
WaitsAt frontier label node = Contains frontier.todo.waiting node ⊎ IsIn frontier.lists (label node, node)

-- For these labels: each waiting node still waits, and no entry is added.
pub record KeepsWaiting (label : ℕ → ℕ) (before after : Frontage) : Type 0 where
  pub fewer : entries_in after ≤ entries_in before
  pub rest : (node : ℕ) → WaitsAt before label node → WaitsAt after label node
  pub nodes : after.todo.nodes ≡ before.todo.nodes
  pub walks : after.todo.walks ≡ before.todo.walks

-- For these labels: an entry is taken out, and every other waiting node still waits.
pub record Takes (label : ℕ → ℕ) (entry : ℕ × ℕ) (before after : Frontage) : Type 0 where
  pub node : (0 < entry.1) × (entry.1 ≤ before.todo.nodes)
  pub fewer : entries_in after + 1 ≤ entries_in before
  pub rest : (node : ℕ) → WaitsAt before label node → (entry ≡ (label node, node)) ⊎ WaitsAt after label node
  pub nodes : after.todo.nodes ≡ before.todo.nodes
  pub walks : after.todo.walks ≡ before.todo.walks

-- The node that waited longest is taken out of the waiting list; the entries stay.
pub record TakesWaiting (node : ℕ) (before after : Frontage) : Type 0 where
  pub is_node : (0 < node) × (node ≤ before.todo.nodes)
  pub waited : before.todo.waiting ≡ node ∷ after.todo.waiting
  pub lists : after.lists ≡ before.lists
  pub nodes : after.todo.nodes ≡ before.todo.nodes
  pub walks : after.todo.walks ≡ before.todo.walks

-- An entry is pushed: its node waits if the entry is not stale. Waiting nodes still wait, even if the labels
-- of others change.
pub record Puts (entry : ℕ × ℕ) (before after : Frontage) : Type 0 where
  pub more : entries_in after ≤ entries_in before + 1
  pub there : (label : ℕ → ℕ) → label entry.1 ≡ entry.0 → WaitsAt after label entry.1
  pub rest : (old new : ℕ → ℕ) (other : ℕ) → new other ≡ old other → WaitsAt before old other → WaitsAt after new other
  pub nodes : after.todo.nodes ≡ before.todo.nodes
  pub walks : after.todo.walks ≡ before.todo.walks
