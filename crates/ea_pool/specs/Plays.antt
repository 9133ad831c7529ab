-- A pool as an `atomic_table`, and what each step says of the seat before, the number found and the seat
-- after.
use Rattle.std.specs.Prelude.{◌≡◌, ◌≢◌, Bool, true, false, ℕ, ◌+◌, ◌*◌, ◌<◌, ◌≤◌, List, [], ◌∷◌, ◌++◌, length, None, slice_index, slice_index_or}
use Rattle.std.specs.List.{AllByRecursion}
use Rattle.atomic_table.specs.Table.{State, Me, Step, rest}
use Rattle.ea_machine.specs.Totals.{total}
use Rattle.ea_pool.specs.declared.heap.entry.Entry.{Entry}
use Rattle.ea_pool.specs.declared.shared.account.SeatMemory.{SeatMemory}
use Rattle.ea_base.specs.declared.limits.TheConstants.{SHARES}
use Rattle.ea_pool.specs.declared.shared.words.TheConstants.{OUT, WORDS_APART}
use Rattle.ea_pool.specs.Entries.{times, SameEntries, InSomeOrder, AreKnown}
use Rattle.ea_pool.specs.Kinds.{HeapKind, Shows}
use Rattle.ea_pool.specs.States.{content_of, saw, forgot, took, pushed, popped, gave}
use Rattle.ea_pool.specs.Core.{Core}
use Rattle.ea_pool.specs.Events.{IsReached}

-- Word 0 is the seat word. The words of heaps are spread.
abbrev pub word_place : ℕ → ℕ
word_place k = WORDS_APART * (k + 1)

-- The words of the heaps, spread over the table's words.
pub record AreSpread (all words : List ℕ) : Type 0 where
  pub room : length all ≡ WORDS_APART * (length words + 1)
  pub each : (k : ℕ) → k < length words → slice_index all (word_place k) ≡ slice_index words k

-- A run leads to the words, the heaps at home and what the seats know.
pub record IsPoolState (known : ℕ → ℕ → Type 0) (kind : HeapKind) (heaps : ℕ) (s : State (List Entry) SeatMemory) : Type 0 where
  pub core : Core
  pub reached : IsReached known kind heaps core
  pub words : AreSpread s.words core.words
  pub homes : s.homes ≡ core.homes
  pub seats : s.views ≡ core.seats

abbrev pub Place : Type 0
Place = Me (List Entry) SeatMemory

-- The content of the slot that the seat took.
abbrev pub value_of : List (ℕ × List Entry) → List Entry
value_of [] = []
value_of (x ∷ xs) = x.1

-- What a seat with all shares knows of the heaps, which are all at home: they have these contents.
pub record Surveys (known : ℕ → ℕ → Type 0) (kind : HeapKind) (heaps : ℕ) (a : SeatMemory) : Type 0 where
  pub contents : List (List Entry)
  pub width : length contents ≡ heaps
  pub left : (f : Entry → ℕ) → total f a.pushed ≡ total f a.popped + total (total f) contents
  pub known_all : AreKnown known a.pushed
  pub seen : AllByRecursion (λ p. p.0 < heaps → Shows kind p.1 (slice_index_or contents p.0 [])) a.seen

module _ (known : ℕ → ℕ → Type 0) (kind : HeapKind) where
  abbrev pub Looked : Step (List Entry) → Place → ℕ → Place → Type 0
  Looked st m r n =
      ((k : ℕ) → st.word ≡ word_place k → k < st.slots → (n ≡ (saw m.0 k r, m.1)) × (r ≤ OUT))
      × (m.0.shares ≤ SHARES)
      × (m.0.shares ≡ SHARES → m.0.held ≡ None → Surveys known kind st.slots n.0)

  -- The seat took heap k, which was at home under this word.
  abbrev pub Took : Place → ℕ → ℕ → Place → Type 0
  Took m k x n = (es : List Entry) × (n ≡ (took m.0 k es, (k, es) ∷ m.1)) × Shows kind x es × AreKnown known es

  abbrev pub Taken : Step (List Entry) → Place → ℕ → Place → Type 0
  Taken st m r n =
      (r ≡ st.first → (k : ℕ) → st.word ≡ word_place k → Took m k r n)
      × (r ≢ st.first → n ≡ (forgot m.0, m.1))
      × (m.0.shares ≡ SHARES → AllByRecursion (λ p. st.word ≡ word_place p.0 → r ≡ p.1) m.0.seen)

module _ (known : ℕ → ℕ → Type 0) where
  -- A heap was returned without some of its entries, popped in some order. If the seat has all shares, they
  -- were pushed before and not popped.
  abbrev pub PutsPopped : Place → Place → Type 0
  PutsPopped m n = (es : List Entry) → SameEntries (content_of m.0.held) (es ++ value_of m.1)
      → InSomeOrder es (λ ds. n ≡ (popped m.0 ds, rest m.1)) × AreKnown known es × (m.0.shares ≡ SHARES → (e : Entry) → times e m.0.popped + times e es ≤ times e m.0.pushed)

  abbrev pub GavePopped : Step (List Entry) → Place → ℕ → Place → Type 0
  GavePopped st m r n = PutsPopped m n

-- A heap was returned with more entries, pushed in some order.
abbrev pub PutsPushed : Place → Place → Type 0
PutsPushed m n = (es : List Entry) → SameEntries (value_of m.1) (es ++ content_of m.0.held) → InSomeOrder es (λ ds. n ≡ (pushed m.0 ds, rest m.1))

abbrev pub GavePushed : Step (List Entry) → Place → ℕ → Place → Type 0
GavePushed st m r n = PutsPushed m n

abbrev pub GaveBack : Step (List Entry) → Place → ℕ → Place → Type 0
GaveBack st m r n = n ≡ (gave m.0, rest m.1)

-- A seat saw this word of a heap. With all shares it knows the words of all heaps.
pub record SeesWord (known : ℕ → ℕ → Type 0) (kind : HeapKind) (heaps heap word : ℕ) (me me' : Place) : Type 0 where
  pub saw_it : me' ≡ (saw me.0 heap word, me.1)
  pub low : (word ≤ OUT) × (me.0.shares ≤ SHARES)
  pub alone : me.0.shares ≡ SHARES → Surveys known kind heaps me'.0

-- Whether a seat took a heap under this word. It does, if it has all shares and saw that word.
pub record TakesHeap (known : ℕ → ℕ → Type 0) (kind : HeapKind) (heap word : ℕ) (me me' : Place) (taken : Bool) : Type 0 where
  pub took : taken ≡ true → Took known kind me heap word me'
  pub missed : taken ≡ false → me' ≡ (forgot me.0, me.1)
  pub alone : me.0.shares ≡ SHARES → AllByRecursion (λ p. heap ≡ p.0 → word ≡ p.1 → taken ≡ true) me.0.seen
