-- Multisets of entries, as lists compared by weight, and the order of entries.
use Rattle.std.specs.Prelude.{◌≡◌, ℕ, ◌<◌, ◌≤◌, List, [], ◌∷◌, ◌++◌, min, cond, ◌==◌, ◌&&◌, Option, Some, None, Result, MatchResult}
use Rattle.std.specs.List.{AllByRecursion}
use Rattle.std.specs.Ordering.{nat_cmp, ordering_then}
use Rattle.std.specs.declared.cmp.Ordering.{Ordering}
use Rattle.ea_machine.specs.Totals.{total}
use Rattle.ea_pool.specs.declared.heap.entry.Entry.{Entry}
use Rattle.ea_pool.specs.declared.shared.words.TheConstants.{EMPTY}

-- The same multiset of entries: every weighing gives both the same total.
abbrev pub SameEntries : List Entry → List Entry → Type 0
SameEntries xs ys = (f : Entry → ℕ) → total f xs ≡ total f ys

-- P holds of these entries in some order.
abbrev pub InSomeOrder : List Entry → (List Entry → Type 0) → Type 0
InSomeOrder es P = (ds : List Entry) × SameEntries ds es × P ds

-- There are more entries, of which P holds.
abbrev pub HasMore : List Entry → List Entry → (List Entry → Type 0) → Type 0
HasMore few many P = (es : List Entry) × SameEntries many (es ++ few) × P es

-- 1 for this entry, and 0 for others.
abbrev pub only : Entry → Entry → ℕ
only e x = cond ((x.key == e.key) && (x.node == e.node)) 1 0

-- How often the entry occurs.
abbrev pub times : Entry → List Entry → ℕ
times e xs = total (only e) xs

-- known node time
abbrev pub IsKnown : (ℕ → ℕ → Type 0) → Entry → Type 0
IsKnown known e = known e.node e.key

abbrev pub AreKnown : (ℕ → ℕ → Type 0) → List Entry → Type 0
AreKnown known es = (e : Entry) → 0 < times e es → IsKnown known e

-- y does not precede x, by key, then by node.
abbrev pub ComesFirst : Entry → Entry → Type 0
ComesFirst x y = (x.key ≤ y.key) × (x.key ≡ y.key → x.node ≤ y.node)

abbrev pub IsLeastOf : Entry → List Entry → Type 0
IsLeastOf x ys = AllByRecursion (ComesFirst x) ys

-- Each entry precedes those behind it.
abbrev pub IsAscending : List Entry → Type 0
IsAscending [] = Unit {0}
IsAscending (x ∷ xs) = IsLeastOf x xs × IsAscending xs

-- These entries, in ascending order, are taken out of a content, and none that is left precedes one of them.
pub record AreTakenOut (entries content rest : List Entry) : Type 0 where
  pub parts : SameEntries content (entries ++ rest)
  pub ascending : IsAscending entries
  pub least : AllByRecursion (λ e. IsLeastOf e rest) entries

-- No key is below this entry's.
abbrev pub HasLeastKey : Entry → List Entry → Type 0
HasLeastKey x ys = AllByRecursion (λ y. x.key ≤ y.key) ys

-- The word of a heap at home: its least key, or EMPTY if it has none.
abbrev pub face : List Entry → ℕ
face [] = EMPTY
face (e ∷ es) = min e.key (face es)

-- The order of a `BinaryHeap`, which pops the greatest: the reverse of the order of entries.
abbrev pub entry_order : Entry → Entry → Ordering
entry_order x y = ordering_then (nat_cmp x.key y.key) (nat_cmp x.node y.node)

-- The entries of all heaps.
abbrev pub gathered : List (List Entry) → List Entry
gathered [] = []
gathered (es ∷ rest) = es ++ gathered rest

abbrev pub lower : ℕ → Option ℕ → Option ℕ
lower key None = Some key
lower key (Some least) = Some (min key least)

-- The least key, if there is an entry.
abbrev pub least_key : List Entry → Option ℕ
least_key [] = None
least_key (e ∷ es) = lower e.key (least_key es)

-- The entry is among those of a heap now; or it was refused, and nothing changed.
abbrev pub GoesInOrBack : Result (Unit {0}) Entry → Entry → List Entry → List Entry → Type 0
GoesInOrBack result entry before after = MatchResult result (λ _. SameEntries after (entry ∷ before)) (λ back. (back ≡ entry) × (after ≡ before))
