-- A pool and its seats, as a contract sees them.
use Rattle.std.specs.Prelude.{◌≡◌, ℕ, List, Option}
use Rattle.atomic_table.specs.Seated.{TableId}
use Rattle.ea_pool.specs.declared.shared.account.Account.{Account}
use Rattle.ea_pool.specs.declared.shared.account.LastTake.{LastTake}

-- The identity of the pool's table, and its number of heaps.
pub record PoolView : Type 0 where
  pub table : TableId
  pub heaps : ℕ

-- The table that made the seat, its account, the words that it saw since its last step of another kind, each
-- with its heap, and the heap that it took last.
pub record SeatView : Type 0 where
  pub table : TableId
  pub account : Account
  pub seen : List (ℕ × ℕ)
  pub last_take : Option LastTake

abbrev pub heaps_of : PoolView → ℕ
heaps_of pool = pool.heaps

abbrev pub account_of : SeatView → Account
account_of seat = seat.account

-- The seat was made by this pool.
abbrev pub IsSeatOf : PoolView → SeatView → Type 0
IsSeatOf pool seat = seat.table ≡ pool.table
