-- Seats that give shares away.
use Rattle.std.specs.Prelude.{◌≡◌, ℕ, ◌+◌, ◌<◌, All, Vec, vec_len}
use Rattle.std.specs.Vec.{vec_capacity}
use Rattle.ea_engine.specs.declared.worker.means.Seats.{Seats}
use Rattle.ea_engine.specs.Ends.{AreFresh}
use Rattle.ea_engine.specs.Reserved.{IsEmptyFor}
use Rattle.ea_engine.specs.Seated.{Tables, AreSeatsOf}

-- This many shares of each were given, and nothing else changed.
pub record HasGiven {K E : Type 0} (count : ℕ) (before after : Seats K E) : Type 0 where
  pub bounds : after.label_seat.history.bounds ≡ before.label_seat.history.bounds
  pub lowerings : after.label_seat.history.lowerings ≡ before.label_seat.history.lowerings
  pub pushed : after.pool_seat.account.pushed ≡ before.pool_seat.account.pushed
  pub popped : after.pool_seat.account.popped ≡ before.pool_seat.account.popped
  pub label_shares : after.label_seat.history.shares + count ≡ before.label_seat.history.shares
  pub pool_shares : after.pool_seat.account.shares + count ≡ before.pool_seat.account.shares

-- Seats of these tables that can give this many shares, and room for as many others.
pub record MaySplit {K E Z : Type 0} (tables : Tables) (count : ℕ) (seats : Seats K E) (others : Vec (Seats K E) Z) : Type 0 where
  pub fit : AreSeatsOf tables seats.label_seat seats.pool_seat
  pub labels : count < seats.label_seat.history.shares
  pub pool : count < seats.pool_seat.account.shares
  pub others_empty : IsEmptyFor count others

-- Seats gave this many shares, one to each of the other pairs of seats of the same tables.
pub record HasSplit {K E Z : Type 0} (tables : Tables) (count : ℕ) (before after : Seats K E) (room others : Vec (Seats K E) Z) : Type 0 where
  pub fit : AreSeatsOf tables after.label_seat after.pool_seat
  pub gave : HasGiven count before after
  pub len : vec_len others ≡ count
  pub capacity : vec_capacity others ≡ vec_capacity room
  pub fresh : All (AreFresh tables) others.items
