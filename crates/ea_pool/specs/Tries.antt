-- The heaps, in order, that were inspected by calls that found no entry or no room. The newest seen word
-- comes first, each with its heap.
use Rattle.std.specs.Prelude.{◌≡◌, ℕ, ◌*◌, ◌<◌, zero, suc, ◌⊎◌, List, [], ◌∷◌, Option, Some, None, min}
use Rattle.ea_pool.specs.declared.heap.entry.Entry.{Entry}
use Rattle.ea_pool.specs.declared.shared.account.LastTake.{LastTake}
use Rattle.ea_pool.specs.declared.shared.words.TheConstants.{OUT}
use Rattle.ea_pool.specs.Draws.{try_draw}
use Rattle.ea_pool.specs.Entries.{SameEntries}
use Rattle.ea_pool.specs.Kinds.{HeapKind, Shows, Gives}
use Rattle.ea_pool.specs.Solos.{lesser}
use Rattle.ea_pool.specs.States.{take_at}

-- Heap i was inspected, then heap j, and these words were found.
abbrev pub LookedAt : ℕ → ℕ → ℕ → ℕ → List (ℕ × ℕ) → List (ℕ × ℕ) → Type 0
LookedAt i x j y before after = after ≡ (j, y) ∷ (i, x) ∷ before

-- A busy pop inspected heap i, then heap j, and one was out; or it tried to take one, and failed.
abbrev pub WasBusy : ℕ → ℕ → List (ℕ × ℕ) → List (ℕ × ℕ) → Type 0
WasBusy i j before after = (after ≡ []) ⊎ ((x : ℕ) × (y : ℕ) × LookedAt i x j y before after × ((x ≡ OUT) ⊎ (y ≡ OUT)))

-- A push's try at a heap found it out, or failed to take it.
abbrev pub MissedHeap : ℕ → List (ℕ × ℕ) → List (ℕ × ℕ) → Type 0
MissedHeap heap before after = (after ≡ (heap, OUT) ∷ before) ⊎ (after ≡ [])

-- This many tries of a push, each at its heap in turn, have missed.
abbrev pub Missed : ℕ → ℕ → ℕ → List (ℕ × ℕ) → List (ℕ × ℕ) → Type 0
Missed heaps word zero before after = after ≡ before
Missed heaps word (suc n) before after = (between : List (ℕ × ℕ)) × Missed heaps word n before between × MissedHeap (try_draw heaps word n) between after

-- This heap was taken last under its word, after it was inspected. Words seen earlier come after it.
abbrev pub TookThere : HeapKind → ℕ → List (ℕ × ℕ) → Option LastTake → Type 0
TookThere kind heap before last = (content : List Entry) × (word : ℕ) × Shows kind word content × (last ≡ Some (take_at heap content ((heap, word) ∷ before)))

-- Some tries of a push missed, fewer than allowed, and the next one took its heap.
pub record TookAtTry (kind : HeapKind) (heaps word : ℕ) (before : List (ℕ × ℕ)) (last : Option LastTake) : Type 0 where
  pub tries : ℕ
  pub few : tries < 2 * heaps
  pub between : List (ℕ × ℕ)
  pub missed : Missed heaps word tries before between
  pub took : TookThere kind (try_draw heaps word tries) between last

-- This heap was taken last, under this word, and gave these entries, as heaps of its kind do.
pub record TookLeast (kind : HeapKind) (heap word : ℕ) (entries : List Entry) (before : List (ℕ × ℕ)) (last : Option LastTake) : Type 0 where
  pub content : List Entry
  pub took : last ≡ Some (take_at heap content before)
  pub word_is : Shows kind word content
  pub least : (rest : List Entry) × Gives kind entries content rest

-- A pop inspected heap i, then heap j, and took the one with the lesser word; at a tie, the lower number.
pub record TookLesser (kind : HeapKind) (i j : ℕ) (entries : List Entry) (before : List (ℕ × ℕ)) (last : Option LastTake) : Type 0 where
  pub x : ℕ
  pub y : ℕ
  pub took : TookLeast kind (lesser i (Some x) j (Some y)) (min x y) entries ((j, y) ∷ (i, x) ∷ before) last

-- These entries were all that the heap taken last had.
abbrev pub TookAll : List Entry → Option LastTake → Type 0
TookAll entries None = ⊥
TookAll entries (Some take) = SameEntries take.content entries
