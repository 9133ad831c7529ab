-- The two kinds of heap, and what each promises of its words and of the entries that it gives.
use Rattle.std.specs.Prelude.{◌≡◌, ℕ, ◌≤◌, List, [], ◌∷◌, ◌++◌, length, ◌<◌, ◌⊎◌, Bool, false}
use Rattle.ea_pool.specs.declared.heap.entry.Entry.{Entry}
use Rattle.ea_pool.specs.declared.shared.words.TheConstants.{EMPTY}
use Rattle.ea_pool.specs.Entries.{SameEntries, IsLeastOf, AreTakenOut, face}

-- Least gives the least entry first; Buckets gives nearly the least, in no promised order.
pub data HeapKind : Type 0 where
  Least : HeapKind
  Buckets : HeapKind

-- The word of a heap at home: its least key, or with buckets a lower bound of its keys; EMPTY if it has no
-- entry.
abbrev pub Shows : HeapKind → ℕ → List Entry → Type 0
Shows Least word es = face es ≡ word
Shows Buckets word es = (word ≤ face es) × (es ≡ [] → word ≡ EMPTY)

-- These entries are taken out of a content; with Least, the least ones in ascending order.
abbrev pub Gives : HeapKind → List Entry → List Entry → List Entry → Type 0
Gives Least entries content rest = AreTakenOut entries content rest
Gives Buckets entries content rest = SameEntries content (entries ++ rest)

-- The same for one entry.
abbrev pub GivesOne : HeapKind → Entry → List Entry → List Entry → Type 0
GivesOne Least entry content rest = IsLeastOf entry content × SameEntries content (entry ∷ rest)
GivesOne Buckets entry content rest = SameEntries content (entry ∷ rest)

-- No key that is left is below the least popped one; with buckets, below the word under which it was popped.
abbrev pub IsBelow : HeapKind → ℕ → List Entry → Entry → Type 0
IsBelow Least word entries left = face entries ≤ left.key
IsBelow Buckets word entries left = word ≤ left.key

-- As many were popped as asked for, or all; with buckets, at least one.
abbrev pub IsEnough : HeapKind → ℕ → List Entry → List Entry → Type 0
IsEnough Least most entries rest = (length entries ≡ most) ⊎ (rest ≡ [])
IsEnough Buckets most entries rest = (length entries ≡ most) ⊎ (rest ≡ []) ⊎ (0 < length entries)

-- Whether a batch should end; with Least, never.
abbrev pub IsSpentAs : HeapKind → Bool → Type 0
IsSpentAs Least spent = spent ≡ false
IsSpentAs Buckets spent = Unit {0}
