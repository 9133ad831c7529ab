-- The calls on heaps of one thread. The heaps are the list of their contents.
use Rattle.std.specs.Prelude.{◌≡◌, ◌≢◌, ◌⊎◌, ◌+◌, ◌<◌, ◌≤◌, length, ℕ, List, [], ◌∷◌, Option, Some, None, cond, nat_lt, min, ◌==◌, slice_index_or, slice_set}
use Rattle.ea_pool.specs.declared.heap.entry.Entry.{Entry}
use Rattle.ea_machine.specs.Totals.{total}
use Rattle.ea_pool.specs.Entries.{SameEntries, IsLeastOf, least_key}

abbrev pub content : List (List Entry) → ℕ → List Entry
content heaps k = slice_index_or heaps k []

-- The heap with the smaller least key; at a tie, the one with the lower number.
abbrev pub lesser : ℕ → Option ℕ → ℕ → Option ℕ → ℕ
lesser i None j None = i
lesser i None j (Some y) = j
lesser i (Some x) j None = i
lesser i (Some x) j (Some y) = cond (nat_lt y x) j (cond (x == y) (min i j) i)

-- The lesser of two words with its heap; if they are equal, the heap with the lower number.
pub record IsLesser (i x j y : ℕ) (picked : ℕ × ℕ) : Type 0 where
  pub one : (picked ≡ (i, x)) ⊎ (picked ≡ (j, y))
  pub least : picked.1 ≡ min x y
  pub lesser_is : picked.0 ≡ lesser i (Some x) j (Some y)

abbrev pub lesser_heap : List (List Entry) → ℕ → ℕ → ℕ
lesser_heap heaps i j = lesser i (least_key (content heaps i)) j (least_key (content heaps j))

-- The entry is added to heap k, and nothing else changes.
abbrev pub AddsTo : ℕ → Entry → List (List Entry) → List (List Entry) → Type 0
AddsTo k e old new = (es : List Entry) × (new ≡ slice_set old k es) × SameEntries es (e ∷ content old k)

-- The least entry of heap k is popped, and nothing else changes.
abbrev pub TakesFrom : ℕ → Entry → List (List Entry) → List (List Entry) → Type 0
TakesFrom k e old new = (es : List Entry) × (new ≡ slice_set old k es) × SameEntries (content old k) (e ∷ es) × IsLeastOf e (content old k)

-- How many entries have a smaller key.
abbrev pub rank_error : ℕ → List (List Entry) → ℕ
rank_error key heaps = total (total (λ e. cond (nat_lt e.key key) 1 0)) heaps

-- The rank error of a pop is at most the number of entries in the heaps that it did not inspect.
abbrev pub RankIsBounded : Type 0
RankIsBounded = (heaps new : List (List Entry)) (i j : ℕ) (e : Entry) → i < length heaps → j < length heaps → i ≢ j → TakesFrom (lesser_heap heaps i j) e heaps new
    → rank_error e.key heaps + (length (content heaps i) + length (content heaps j)) ≤ total length heaps
