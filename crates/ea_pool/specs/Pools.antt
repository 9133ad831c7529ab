-- What contracts say of a seat's account, and of a seat during a call.
use Rattle.std.specs.Prelude.{◌≡◌, ℕ, ◌+◌, ◌<◌, ◌≤◌, List, [], ◌∷◌, ◌++◌, map, Some, None, Contains}
use mathlib.Core.Option as maybe
use Rattle.atomic_table.specs.Seated.{TableId}
use Rattle.ea_base.specs.declared.limits.TheConstants.{HORIZON, SHARES}
use Rattle.ea_pool.specs.declared.heap.entry.Entry.{Entry}
use Rattle.ea_pool.specs.declared.shared.account.Account.{Account}
use Rattle.ea_pool.specs.declared.shared.account.SeatMemory.{SeatMemory}
use Rattle.ea_pool.specs.Entries.{times, AreKnown, SameEntries, gathered}
use Rattle.ea_pool.specs.Kinds.{HeapKind}
use Rattle.ea_pool.specs.States.{held_at}
use Rattle.ea_pool.specs.Core.{Core}
use Rattle.ea_pool.specs.Events.{IsReached}
use Rattle.ea_pool.specs.Plays.{Place}
use Rattle.ea_pool.specs.Seats.{PoolView, SeatView}

-- The account is unchanged.
abbrev pub SameBooks : Account → Account → Type 0
SameBooks a b = (b.shares ≡ a.shares) × (b.pushed ≡ a.pushed) × (b.popped ≡ a.popped)

-- It gains one pushed entry, and nothing else changes.
abbrev pub Pushes : Account → Entry → Account → Type 0
Pushes a e b = (b.shares ≡ a.shares) × (b.pushed ≡ e ∷ a.pushed) × (b.popped ≡ a.popped)

-- It gains these pushed entries, and nothing else changes.
abbrev pub PushesAll : Account → List Entry → Account → Type 0
PushesAll a es b = (b.shares ≡ a.shares) × SameEntries b.pushed (es ++ a.pushed) × (b.popped ≡ a.popped)

-- It gains these popped entries, and nothing else changes.
abbrev pub PopsAll : Account → List Entry → Account → Type 0
PopsAll a es b = (b.shares ≡ a.shares) × (b.pushed ≡ a.pushed) × SameEntries b.popped (es ++ a.popped)

-- It gains one popped entry, and nothing else changes.
abbrev pub Pops : Account → Entry → Account → Type 0
Pops a e b = (b.shares ≡ a.shares) × (b.pushed ≡ a.pushed) × (b.popped ≡ e ∷ a.popped)

-- A seat with these shares that has done nothing.
abbrev pub Opened : ℕ → Account → Type 0
Opened shares a = (a.shares ≡ shares) × (a.pushed ≡ []) × (a.popped ≡ [])

-- Nothing is left in the heaps: what a seat with all shares pushed, it popped.
abbrev pub NothingLeft : Account → Type 0
NothingLeft a = SameEntries a.pushed a.popped

-- This entry is among those left.
abbrev pub IsLeft : Entry → Account → Type 0
IsLeft e a = times e a.popped < times e a.pushed

-- These entries are among those left.
abbrev pub AreLeft : List Entry → Account → Type 0
AreLeft es a = (e : Entry) → times e a.popped + times e es ≤ times e a.pushed

-- None left has a key below this one's.
abbrev pub IsLeastLeft : Entry → Account → Type 0
IsLeastLeft e a = IsLeft e a × ((d : Entry) → IsLeft d a → e.key ≤ d.key)

-- WITHIN A CALL

abbrev pub books : SeatMemory → Account
books a = record { shares = a.shares; pushed = a.pushed; popped = a.popped }

-- What contracts see of the seat of a table.
abbrev pub view_of : TableId → Place → SeatView
view_of table me = record { table = table; account = books me.0; seen = me.0.seen; last_take = me.0.last_take }

-- A seat between two calls has a share and holds nothing.
abbrev pub Rests : Place → Type 0
Rests m = (m.1 ≡ []) × (m.0.held ≡ None) × (0 < m.0.shares)

-- The seat was made by this pool and rests between two calls.
pub record IsAtRest (pool : PoolView) (table : TableId) (me : Place) : Type 0 where
  pub of_pool : table ≡ pool.table
  pub rests : Rests me

-- The same, with the number of one of the pool's heaps.
pub record MayTry (pool : PoolView) (heap : ℕ) (table : TableId) (me : Place) : Type 0 where
  pub of_pool : table ≡ pool.table
  pub in_pool : heap < pool.heaps
  pub rests : Rests me

-- The seat's table is the same, and it rests again.
pub record RestsAgain (before after : TableId) (me : Place) : Type 0 where
  pub same_table : after ≡ before
  pub rests : Rests me

-- The seat's table and its memory are the same.
pub record KeepsMemory (before after : TableId) (a b : SeatMemory) : Type 0 where
  pub same_table : after ≡ before
  pub view : b ≡ a

-- It holds heap k alone, with entries of which P holds.
abbrev pub HoldsHeap : Place → ℕ → (List Entry → Type 0) → Type 0
HoldsHeap m k P = (es : List Entry) × (m.1 ≡ (k, es) ∷ []) × P es

abbrev pub AreInTime : List Entry → Type 0
AreInTime es = (e : Entry) → 0 < times e es → e.key ≤ HORIZON

-- It took heap k, with entries of which P holds.
abbrev pub IsHeld : SeatMemory → ℕ → (List Entry → Type 0) → Type 0
IsHeld a k P = (es : List Entry) × (a.held ≡ Some (held_at k es)) × P es

-- The seat was made by this pool and holds this heap, with entries of which P holds.
pub record MayUse (pool : PoolView) (heap : ℕ) (table : TableId) (me : Place) (P : List Entry → Type 0) : Type 0 where
  pub of_pool : table ≡ pool.table
  pub held : HoldsHeap me heap P

-- The heap that the seat holds was used: this was done to its entries, and the seat's table and its memory are
-- the same.
pub record UsesHeap (heap : ℕ) (before after : TableId) (me me' : Place) (does : List Entry → List Entry → Type 0) : Type 0 where
  pub keeps : KeepsMemory before after me.0 me'.0
  pub moves : HoldsHeap me heap (λ es. HoldsHeap me' heap (does es))

-- The seat was made by this pool and holds one of its heaps, with entries that it may return in place of those
-- that it took.
pub record MayGive (pool : PoolView) (heap : ℕ) (table : TableId) (me : Place) (may : List Entry → List Entry → Type 0) : Type 0 where
  pub of_pool : table ≡ pool.table
  pub in_pool : heap < pool.heaps
  pub has_share : 0 < me.0.shares
  pub held : HoldsHeap me heap (λ left. IsHeld me.0 heap (may left))

-- The first seat of a new pool of this many heaps, with all shares: nothing was pushed or popped.
pub record IsNewPool (heaps : ℕ) (pool : PoolView) (seat : SeatView) : Type 0 where
  pub heaps_are : pool.heaps ≡ heaps
  pub of_pool : seat.table ≡ pool.table
  pub account : Opened SHARES seat.account

-- AT THE END

-- Some run of a new pool ends with each heap at home, these entries in them, and this account of a seat.
pub record IsRunEnd (known : ℕ → ℕ → Type 0) (kind : HeapKind) (heaps : ℕ) (left : List Entry) (account : Account) : Type 0 where
  pub core : Core
  pub reached : IsReached known kind heaps core
  pub contents : List (List Entry)
  pub homes : core.homes ≡ map maybe.some contents
  pub left_is : gathered contents ≡ left
  pub seat : SeatMemory
  pub has_seat : Contains core.seats seat
  pub account_is : books seat ≡ account

-- What an account of all shares pushed is what it popped and what is left, and all of that is known.
pub record IsClosed (known : ℕ → ℕ → Type 0) (kind : HeapKind) (heaps : ℕ) (left : List Entry) (account : Account) : Type 0 where
  pub left_is : SameEntries account.pushed (account.popped ++ left)
  pub left_known : AreKnown known left
  pub run : IsRunEnd known kind heaps left account
