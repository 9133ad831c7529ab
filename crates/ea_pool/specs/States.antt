-- What a seat knows, and how each kind of step changes it. Each step but a load forgets the words that were
-- seen; a take keeps them with the heap.
use Rattle.std.specs.Prelude.{ℕ, ◌+◌, ◌-◌, ◌<◌, ◌==◌, cond, List, [], ◌∷◌, ◌++◌, Option, Some, None}
use Rattle.ea_pool.specs.declared.heap.entry.Entry.{Entry}
use Rattle.ea_pool.specs.declared.shared.account.Held.{Held}
use Rattle.ea_pool.specs.declared.shared.account.LastTake.{LastTake}
use Rattle.ea_pool.specs.declared.shared.account.SeatMemory.{SeatMemory}
use Rattle.ea_base.specs.declared.limits.TheConstants.{SHARES}

abbrev pub seat_state : ℕ → List Entry → List Entry → Option Held → List (ℕ × ℕ) → Option LastTake → SeatMemory
seat_state shares pushed popped held seen last_take = record { shares = shares; pushed = pushed; popped = popped; held = held; seen = seen; last_take = last_take }

-- A new pool's first seat.
abbrev pub first_state : SeatMemory
first_state = seat_state SHARES [] [] None [] None

-- A seat that was joined.
abbrev pub nobody : SeatMemory
nobody = seat_state 0 [] [] None [] None

abbrev pub held_at : ℕ → List Entry → Held
held_at heap content = record { heap = heap; content = content }

abbrev pub take_at : ℕ → List Entry → List (ℕ × ℕ) → LastTake
take_at heap content seen = record { heap = heap; content = content; seen = seen }

-- The entries of the heap that is held.
abbrev pub content_of : Option Held → List Entry
content_of None = []
content_of (Some h) = h.content

-- How often the heap of this number is held.
abbrev pub count_of : ℕ → Option Held → ℕ
count_of k None = 0
count_of k (Some h) = cond (h.heap == k) 1 0

abbrev pub holds_heap : ℕ → SeatMemory → ℕ
holds_heap k a = count_of k a.held

-- A heap is held, and P holds of its entries.
abbrev pub IfHeld : Option Held → (List Entry → Type 0) → Type 0
IfHeld None P = ⊥
IfHeld (Some h) P = P h.content

-- A heap that is held has a number below this.
abbrev pub IsInside : ℕ → Option Held → Type 0
IsInside heaps None = Unit {0}
IsInside heaps (Some h) = h.heap < heaps

-- THE STEPS

-- A load of heap k found the word x.
abbrev pub saw : SeatMemory → ℕ → ℕ → SeatMemory
saw a k x = seat_state a.shares a.pushed a.popped a.held ((k, x) ∷ a.seen) a.last_take

-- A take failed.
abbrev pub forgot : SeatMemory → SeatMemory
forgot a = seat_state a.shares a.pushed a.popped a.held [] a.last_take

-- A take of heap k, which has these entries.
abbrev pub took : SeatMemory → ℕ → List Entry → SeatMemory
took a k es = seat_state a.shares a.pushed a.popped (Some (held_at k es)) [] (Some (take_at k es a.seen))

-- The heap was returned after these entries were pushed; after they were popped; unchanged.
abbrev pub pushed : SeatMemory → List Entry → SeatMemory
pushed a es = seat_state a.shares (es ++ a.pushed) a.popped None [] a.last_take

abbrev pub popped : SeatMemory → List Entry → SeatMemory
popped a es = seat_state a.shares a.pushed (es ++ a.popped) None [] a.last_take

abbrev pub gave : SeatMemory → SeatMemory
gave a = seat_state a.shares a.pushed a.popped None [] a.last_take

-- A split: the seat that gives a share, and the new seat.
abbrev pub left_of : SeatMemory → SeatMemory
left_of a = seat_state (a.shares - 1) a.pushed a.popped a.held [] a.last_take

abbrev pub newcomer : SeatMemory → SeatMemory
newcomer a = seat_state 1 [] [] None [] None

-- A join: the seat gains all that the other had.
abbrev pub joined : SeatMemory → SeatMemory → SeatMemory
joined a b = seat_state (a.shares + b.shares) (a.pushed ++ b.pushed) (a.popped ++ b.popped) a.held [] a.last_take
