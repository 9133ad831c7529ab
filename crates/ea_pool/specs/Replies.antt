-- Predicates on the outcomes of pushes and pops.
use Rattle.std.specs.Prelude.{◌≡◌, ℕ, Bool, true, false, [], ◌∷◌, Result, Ok, Err, IfErr, OnOk}
use Rattle.std.specs.List.{AllByRecursion}
use Rattle.ea_base.specs.declared.limits.TheConstants.{SHARES}
use Rattle.ea_pool.specs.declared.heap.entry.Entry.{Entry}
use Rattle.ea_pool.specs.declared.shared.account.Account.{Account}
use Rattle.ea_pool.specs.declared.shared.reply.PushRefused.{PushRefused}
use Rattle.ea_pool.specs.declared.shared.reply.PushRefused.TheVariants.{Busy, OutOfMemory}
use Rattle.ea_pool.specs.declared.shared.reply.Popped.{Popped}
use Rattle.ea_pool.specs.declared.shared.reply.Popped.TheVariants as popped
use Rattle.ea_pool.specs.declared.shared.words.TheConstants.{EMPTY}
use Rattle.ea_pool.specs.Kinds.{Least}
use Rattle.ea_pool.specs.Pools.{IsLeastLeft, IsLeft, NothingLeft, Pops, Pushes, SameBooks}
use Rattle.ea_pool.specs.Seats.{SeatView}
use Rattle.ea_pool.specs.Tries.{LookedAt, TookLeast, TookLesser, WasBusy}

-- The entry that is returned.
abbrev pub handed_back : PushRefused → Entry
handed_back (Busy e) = e
handed_back (OutOfMemory e) = e

abbrev pub is_busy : PushRefused → Bool
is_busy (Busy e) = true
is_busy (OutOfMemory e) = false

-- P if a push was busy, else Q.
abbrev pub MatchBusy : Result (Unit {0}) PushRefused → Type 0 → Type 0 → Type 0
MatchBusy (Ok done) P Q = Q
MatchBusy (Err (Busy e)) P Q = P
MatchBusy (Err (OutOfMemory e)) P Q = Q

-- P of the entry, Q if there was none, R if the pool was busy.
abbrev pub MatchPopped : Popped → (Entry → Type 0) → Type 0 → Type 0 → Type 0
MatchPopped (popped.Entry e) P Q R = P e
MatchPopped popped.Empty P Q R = Q
MatchPopped popped.Busy P Q R = R

-- P of the entry, if there was one.
abbrev pub OnPopped : Popped → (Entry → Type 0) → Type 0
OnPopped reply P = MatchPopped reply P (Unit {0}) (Unit {0})

-- A push of an entry: it is in the account, or it is handed back and the account is unchanged. A seat with all
-- shares is never busy.
pub record IsPush (result : Result (Unit {0}) PushRefused) (before after : Account) (entry : Entry) : Type 0 where
  pub pushed : OnOk result (Pushes before entry after)
  pub refused : IfErr result (λ refused. (handed_back refused ≡ entry) × SameBooks before after)
  pub alone : before.shares ≡ SHARES → IfErr result (λ refused. is_busy refused ≡ false)

-- A pop from one heap that has an entry, if its word was still `seen`. It is, if a seat with all shares saw that
-- word; and what that seat pops was left.
pub record IsPopAt (known : ℕ → ℕ → Type 0) (heap seen : ℕ) (before after : SeatView) (reply : Popped) : Type 0 where
  pub popped : MatchPopped reply (λ e. Pops before.account e after.account × known e.node e.key × (e.key ≡ seen)) ⊥ (SameBooks before.account after.account × (after.seen ≡ []))
  pub took : OnPopped reply (λ e. TookLeast Least heap seen (e ∷ []) before.seen after.last_take)
  pub alone : before.account.shares ≡ SHARES → AllByRecursion (λ p. heap ≡ p.0 → seen ≡ p.1 → MatchPopped reply (λ _. Unit {0}) ⊥ ⊥) before.seen
  pub left : before.account.shares ≡ SHARES → MatchPopped reply (λ e. IsLeft e before.account) (Unit {0}) (Unit {0})

-- A pop from two of a pool's heaps: it inspected heap i, then heap j, and took the least entry of the one with the
-- lesser word, or nothing has changed. A seat with all shares is never busy; with two heaps it pops the least
-- entry that is left, or nothing is left.
pub record IsPop (known : ℕ → ℕ → Type 0) (heaps i j : ℕ) (before after : SeatView) (reply : Popped) : Type 0 where
  pub popped : MatchPopped reply (λ e. Pops before.account e after.account × known e.node e.key) (SameBooks before.account after.account) (SameBooks before.account after.account)
  pub looked : MatchPopped reply (λ _. Unit {0}) (LookedAt i EMPTY j EMPTY before.seen after.seen) (WasBusy i j before.seen after.seen)
  pub lesser : OnPopped reply (λ e. TookLesser Least i j (e ∷ []) before.seen after.last_take)
  pub alone : before.account.shares ≡ SHARES → MatchPopped reply (λ _. Unit {0}) (Unit {0}) ⊥
  pub least : before.account.shares ≡ SHARES → heaps ≡ 2 → MatchPopped reply (λ e. IsLeastLeft e before.account) (NothingLeft before.account) ⊥
