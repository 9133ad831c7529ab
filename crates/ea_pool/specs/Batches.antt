-- Calls with batches of entries.
use Rattle.std.specs.Prelude.{◌≡◌, ◌⊎◌, ℕ, ◌<◌, ◌≤◌, Bool, true, false, List, [], ◌++◌, length, min, Option, Result, Ok, Err}
use Rattle.std.specs.List.{AllByRecursion}
use Rattle.arrayvec.specs.ArrayVec.{ArrayVec}
use Rattle.ea_pool.specs.declared.heap.entry.Entry.{Entry}
use Rattle.ea_pool.specs.declared.shared.account.Account.{Account}
use Rattle.ea_pool.specs.declared.shared.account.LastTake.{LastTake}
use Rattle.ea_pool.specs.declared.shared.reply.PushAllRefused.{PushAllRefused}
use Rattle.ea_pool.specs.declared.shared.reply.PushAllRefused.TheVariants as refused
use Rattle.ea_pool.specs.declared.shared.reply.PoppedSome.{PoppedSome}
use Rattle.ea_pool.specs.declared.shared.reply.PoppedSome.TheVariants as reply
use Rattle.ea_base.specs.declared.limits.TheConstants.{SHARES}
use Rattle.ea_pool.specs.Entries.{SameEntries, AreKnown}
use Rattle.ea_pool.specs.Kinds.{HeapKind, Least, Buckets, Gives, IsEnough, IsBelow}
use Rattle.ea_pool.specs.declared.shared.words.TheConstants.{EMPTY}
use Rattle.ea_pool.specs.Pools.{PushesAll, PopsAll, IsLeft, AreLeft, NothingLeft, SameBooks}
use Rattle.ea_pool.specs.Seats.{SeatView}
use Rattle.ea_pool.specs.Tries.{LookedAt, TookAll, TookLeast, TookLesser, WasBusy}

-- Entries from the end of a batch are in the heap now.
pub record GoesIn (before after heap heap' : List Entry) : Type 0 where
  pub went : List Entry
  pub split : before ≡ after ++ went
  pub added : SameEntries heap' (went ++ heap)

-- The same, of all entries of the batch, or else of some: then at least one is left.
pub record GoesInUntil (all : Bool) (before after heap heap' : List Entry) : Type 0 where
  pub goes : GoesIn before after heap heap'
  pub none_left : all ≡ true → after ≡ []
  pub some_left : all ≡ false → 0 < length after

-- Entries were popped from a heap of this kind: as many as asked for, or all; with buckets, maybe all of a
-- window.
pub record AreFirst (kind : HeapKind) (most : ℕ) (out heap heap' : List Entry) : Type 0 where
  pub taken : Gives kind out heap heap'
  pub few : length out ≤ most
  pub enough : IsEnough kind most out heap'

-- They are appended to the batch.
abbrev pub ComesOut : HeapKind → ℕ → List Entry → List Entry → List Entry → List Entry → Type 0
ComesOut kind most before after heap heap' = (out : List Entry) × (after ≡ before ++ out) × AreFirst kind most out heap heap'

-- A refused push leaves the first entries of the batch, at least one, in their order; the account has the
-- others as pushed.
abbrev pub PushesFrom : List Entry → List Entry → Account → Account → Type 0
PushesFrom before after a b = (went : List Entry) × (before ≡ after ++ went) × PushesAll a went b × (0 < length after)

-- As many as asked for, or all that the heap taken last had; with buckets, any number.
abbrev pub TookEnough : HeapKind → ℕ → List Entry → Option LastTake → Type 0
TookEnough Least most out last = (length out ≡ most) ⊎ TookAll out last
TookEnough Buckets most out last = Unit {0}

-- A pop appended up to `most` known entries to the batch and the account, at least one, from a heap of which
-- P holds: as many as asked for or all that it had, if heaps give the least entry first.
pub record PopsSome (known : ℕ → ℕ → Type 0) (kind : HeapKind) (most : ℕ) (before after : List Entry) (a b : Account) (P : List Entry → Type 0) (last : Option LastTake) : Type 0 where
  pub out : List Entry
  pub brought : after ≡ before ++ out
  pub some : 0 < length out
  pub popped : PopsAll a out b
  pub known_all : AreKnown known out
  pub took : P out
  pub few : length out ≤ most
  pub enough : TookEnough kind most out last
  -- A seat with all shares pops what was left.
  pub left : a.shares ≡ SHARES → AreLeft out a

-- With two heaps, what a seat with all shares pops first has the least key of all that is left; with buckets,
-- no key that is left is below the word under which it popped.
abbrev pub IsLowest : HeapKind → ℕ → ℕ → List Entry → Account → Type 0
IsLowest kind heaps word out a = a.shares ≡ SHARES → heaps ≡ 2 → (d : Entry) → IsLeft d a → IsBelow kind word out d

-- P if all entries went in, Q if the pool was busy, R if memory was refused.
abbrev pub MatchPushed : Result (Unit {0}) PushAllRefused → Type 0 → Type 0 → Type 0 → Type 0
MatchPushed (Ok done) P Q R = P
MatchPushed (Err refused.Busy) P Q R = Q
MatchPushed (Err refused.OutOfMemory) P Q R = R

-- A push of a batch: all its entries are in the account, or none and the batch is as it was, or the others
-- than its first ones. A seat with all shares is never busy.
pub record IsBatchPush (result : Result (Unit {0}) PushAllRefused) (before after : Account) (batch batch' : ArrayVec Entry) : Type 0 where
  pub pushed : MatchPushed result (PushesAll before batch.items after × (batch'.items ≡ [])) (SameBooks before after × (batch' ≡ batch)) (PushesFrom batch.items batch'.items before after)
  pub alone : before.shares ≡ SHARES → MatchPushed result (Unit {0}) ⊥ (Unit {0})

-- P if entries were popped, Q if there were none, R if the pool was busy.
abbrev pub MatchSome : PoppedSome → Type 0 → Type 0 → Type 0 → Type 0
MatchSome reply.Entries P Q R = P
MatchSome reply.Empty P Q R = Q
MatchSome reply.Busy P Q R = R

-- A pop of a batch from one heap, if its word was still `seen`: whether it was. It is, if a seat with all
-- shares saw that word.
pub record IsBatchPopAt (known : ℕ → ℕ → Type 0) (kind : HeapKind) (heap seen most : ℕ) (before after : SeatView) (batch batch' : ArrayVec Entry) (done : Bool) : Type 0 where
  pub popped : done ≡ true → PopsSome known kind most batch.items batch'.items before.account after.account (λ out. TookLeast kind heap seen out before.seen after.last_take) after.last_take
  pub busy : done ≡ false → SameBooks before.account after.account × (after.seen ≡ []) × (batch' ≡ batch)
  pub alone : before.account.shares ≡ SHARES → AllByRecursion (λ p. heap ≡ p.0 → seen ≡ p.1 → done ≡ true) before.seen

-- A pop of a batch from two of a pool's heaps: it inspected heap i, then heap j, and popped from the one with the
-- lesser word, or nothing has changed. A seat with all shares is never busy; with two heaps it finds both empty
-- only if nothing is left.
pub record IsBatchPop (known : ℕ → ℕ → Type 0) (kind : HeapKind) (heaps i j most : ℕ) (before after : SeatView) (batch batch' : ArrayVec Entry) (reply : PoppedSome) : Type 0 where
  pub popped : MatchSome reply
      (
      (pops : PopsSome known kind most batch.items batch'.items before.account after.account (λ out. TookLesser kind i j out before.seen after.last_take) after.last_take)
      × IsLowest kind heaps (min pops.took.x pops.took.y) pops.out before.account
      )
      (SameBooks before.account after.account × (batch' ≡ batch))
      (SameBooks before.account after.account × (batch' ≡ batch))
  pub looked : MatchSome reply (Unit {0}) (LookedAt i EMPTY j EMPTY before.seen after.seen) (WasBusy i j before.seen after.seen)
  pub alone : before.account.shares ≡ SHARES → MatchSome reply (Unit {0}) (Unit {0}) ⊥
  pub nothing : before.account.shares ≡ SHARES → heaps ≡ 2 → MatchSome reply (Unit {0}) (NothingLeft before.account) (Unit {0})
