-- The two shared tables, the seats that belong to them, and a worker's seats and generator.
use Rattle.std.specs.Prelude.{◌≡◌, List}
use Rattle.rand_core.specs.Stream.{Stream}
use Rattle.ea_labels.specs.Core as labels
use Rattle.ea_pool.specs.Seats as pools
use Rattle.ea_pool.specs.declared.heap.entry.Entry.{Entry}
use Rattle.ea_base.specs.declared.limits.TheConstants.{SHARES}
use Rattle.ea_engine.specs.declared.worker.means.Means.{Means}
use Rattle.ea_engine.specs.declared.worker.means.Seats.{Seats}
use Rattle.ea_engine.specs.declared.worker.turn.Lists.{Lists}
use Rattle.ea_engine.specs.declared.worker.work_loop.WorkerEnd.{WorkerEnd}
use Rattle.ea_engine.specs.Worked.{Kit, kit}

-- The label table and the pool.
pub record Tables : Type 0 where
  pub labels : labels.TableView
  pub pool : pools.PoolView

abbrev pub tables : labels.TableView → pools.PoolView → Tables
tables labels pool = record { labels = labels; pool = pool }

-- The seats were made by these tables.
pub record AreSeatsOf (tables : Tables) (label_seat : labels.SeatView) (pool_seat : pools.SeatView) : Type 0 where
  pub labels : label_seat.table ≡ tables.labels.table
  pub pool : pools.IsSeatOf tables.pool pool_seat

-- What a worker has while it runs, and when it is done.
abbrev pub kit_of : {K R E : Type 0} → (R → Stream) → Means K R E → List Entry → List Entry → Kit
kit_of stream means taken fresh = kit means.label_seat.history means.pool_seat.account (stream means.rng) taken fresh

abbrev pub kit_with : {K R E : Type 0} → (R → Stream) → Means K R E → Lists → Kit
kit_with stream means lists = kit_of stream means lists.taken.items lists.fresh.items

abbrev pub kit_left : {K R T E : Type 0} → (R → Stream) → WorkerEnd K R T E → Kit
kit_left stream end = kit end.label_seat.history end.pool_seat.account (stream end.rng) end.hand.taken.items end.hand.fresh.items

-- The seats were made by these tables and have all their shares.
pub record HaveAllShares {K E : Type 0} (tables : Tables) (seats : Seats K E) : Type 0 where
  pub fit : AreSeatsOf tables seats.label_seat seats.pool_seat
  pub labels : seats.label_seat.history.shares ≡ SHARES
  pub pool : seats.pool_seat.account.shares ≡ SHARES
