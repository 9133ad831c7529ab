-- A list of waiting nodes, oldest first, with room for a number of nodes, and how it is stored.
use Rattle.std.specs.Prelude.{◌≡◌, ◌==◌, ℕ, zero, suc, ◌≤◌, Bool, false, List, length, slice_index_or, count_by, if◌then◌else◌}

-- The waiting nodes, how many nodes there is room for, and whether there is room for their walks.
pub record Worklist : Type 0 where
  pub nodes : ℕ
  pub waiting : List ℕ
  pub walks : Bool

-- The waiting nodes, and how many nodes there is room for.
pub record Ring : Type 0 where
  pub nodes : ℕ
  pub waiting : List ℕ

-- How many nodes there is room for, and whether there is room for their walks.
pub record Room : Type 0 where
  pub nodes : ℕ
  pub walks : Bool

-- Whether the node's bit is set.
abbrev pub is_marked : List Bool → ℕ → Bool
is_marked marked zero = false
is_marked marked (suc k) = slice_index_or marked k false

-- The bits mark exactly the waiting nodes; each waits once, and there is room for all.
pub record IsWorklist (room : ℕ) (queue : List ℕ) (marked : List Bool) : Type 0 where
  pub fits : length marked ≤ room
  pub once : (v : ℕ) → count_by (λ x. x == v) queue ≡ (if is_marked marked v then 1 else 0)
  pub counted : length queue ≡ count_by (λ b. b) marked
