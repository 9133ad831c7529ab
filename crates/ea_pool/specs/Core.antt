-- The pool as plain data: a word and a content for each heap, and what each seat knows; and when these are
-- consistent.
use Rattle.std.specs.Prelude.{◌≡◌, ℕ, ◌+◌, ◌<◌, List, [], length, slice_index}
use Rattle.std.specs.List.{AllByRecursion}
use mathlib.Core.Option as maybe
use lib.ListN.{get_elem?}
use Rattle.ea_machine.specs.Totals.{total}
use Rattle.ea_pool.specs.declared.heap.entry.Entry.{Entry}
use Rattle.ea_pool.specs.declared.shared.account.SeatMemory.{SeatMemory}
use Rattle.ea_base.specs.declared.limits.TheConstants.{SHARES}
use Rattle.ea_pool.specs.declared.shared.words.TheConstants.{OUT}
use Rattle.ea_pool.specs.Entries.{times, IsKnown}
use Rattle.ea_pool.specs.Kinds.{HeapKind, Shows}
use Rattle.ea_pool.specs.States.{nobody, content_of, holds_heap, IsInside}

-- One word for each heap, the content of each heap that is at home, and the seats by number.
pub record Core : Type 0 where
  pub words : List ℕ
  pub homes : List (maybe.Option (List Entry))
  pub seats : List SeatMemory

-- The entries of a heap that is at home.
abbrev pub at_home : maybe.Option (List Entry) → List Entry
at_home maybe.none = []
at_home (maybe.some es) = es

-- A heap's word, the number of seats that hold it, and its content at home: it is at home under a word of its
-- kind, or one seat holds it.
abbrev pub Fits : HeapKind → ℕ → ℕ → maybe.Option (List Entry) → Type 0
Fits kind word holders maybe.none = (word ≡ OUT) × (holders ≡ 1)
Fits kind word holders (maybe.some es) = Shows kind word es × (holders ≡ 0)

-- Each pair of a heap and a value has the heap's word.
abbrev pub AreWords : List ℕ → List (ℕ × ℕ) → Type 0
AreWords words pairs = AllByRecursion (λ p. slice_index words p.0 ≡ p.1) pairs

-- Nothing is lost or made up: what was pushed is what was popped and what the heaps have. A heap is at home
-- under its word, or out with one seat.
pub record IsLawful (known : ℕ → ℕ → Type 0) (kind : HeapKind) (core : Core) : Type 0 where
  pub one_word_per_heap : length core.words ≡ length core.homes
  pub fits : (k : ℕ) (home : maybe.Option (List Entry)) → get_elem? core.homes k ≡ maybe.some home → Fits kind (slice_index core.words k) (total (holds_heap k) core.seats) home
  pub held_inside : (j : ℕ) (a : SeatMemory) → get_elem? core.seats j ≡ maybe.some a → IsInside (length core.homes) a.held
  -- What was pushed is what was popped and what the heaps have, at home or held.
  pub balanced : (f : Entry → ℕ) → total (λ a. total f a.pushed) core.seats ≡ total (λ a. total f a.popped) core.seats + (total (λ h. total f (at_home h)) core.homes + total (λ a. total f (content_of a.held)) core.seats)
  -- Each entry that was pushed or popped, or that a heap has, is known.
  pub known_all : (e : Entry) → 0 < total (λ a. times e a.pushed) core.seats + total (λ a. times e a.popped) core.seats + total (λ h. times e (at_home h)) core.homes + total (λ a. times e (content_of a.held)) core.seats → IsKnown known e
  pub shares_add_up : total (λ a. a.shares) core.seats ≡ SHARES
  -- A live seat has a share.
  pub live : (j : ℕ) (a : SeatMemory) → get_elem? core.seats j ≡ maybe.some a → a.shares ≡ 0 → a ≡ nobody
  -- If one seat has all shares, the words that it saw are still there.
  pub fresh : (j : ℕ) (a : SeatMemory) → get_elem? core.seats j ≡ maybe.some a → a.shares ≡ SHARES → AreWords core.words a.seen
