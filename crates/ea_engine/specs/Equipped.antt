-- What a worker has: the ground of its problem, its two seats, and the entries that it holds.
use Rattle.std.specs.Prelude.{◌≡◌, ℕ, ◌<◌, ◌≤◌, List, Option, Bool, true, false, [], length}
use Rattle.arrayvec.specs.ArrayVec.{array_vec_len}
use Rattle.rand_core.specs.Stream.{Stream}
use Rattle.ea_base.specs.declared.limits.TheConstants.{HORIZON, MOST_BATCH}
use Rattle.ea_road.specs.Roads.{Roads, IsArc}
use Rattle.ea_road.specs.declared.arc.Arc.{Arc}
use Rattle.ea_labels.specs.Core as labels
use Rattle.ea_labels.specs.declared.record.SeatRecord.{SeatRecord}
use Rattle.ea_pool.specs.declared.heap.entry.Entry.{Entry}
use Rattle.ea_pool.specs.Seats as pools
use Rattle.ea_pool.specs.Entries.{AreKnown}
use Rattle.ea_engine.specs.declared.run.ground.Ground.{Ground}
use Rattle.ea_engine.specs.declared.settings.Pace.{Pace}
use Rattle.ea_engine.specs.declared.worker.means.Means.{Means}
use Rattle.ea_engine.specs.declared.worker.turn.Lists.{Lists}
use Rattle.ea_engine.specs.Problems.{Problem}
use Rattle.ea_engine.specs.Grounds.{IsGround, tables_of}
use Rattle.ea_engine.specs.Limits.{IsPace}
use Rattle.ea_engine.specs.Seated.{Tables, AreSeatsOf}
use Rattle.ea_engine.specs.Worked.{kit, Progress}

-- The worker's seats were made by these tables, and its fresh entries are known.
pub record AreMeans {K R E : Type 0} (known : ℕ → ℕ → Type 0) (tables : Tables) (means : Means K R E) (fresh : List Entry) : Type 0 where
  pub seats : AreSeatsOf tables means.label_seat means.pool_seat
  pub fresh_known : AreKnown known fresh

-- The worker's seats were made by these tables, and the entries that it holds between two turns are known.
pub record AreHeld {K R E : Type 0} (known : ℕ → ℕ → Type 0) (tables : Tables) (means : Means K R E) (lists : Lists) : Type 0 where
  pub seats : AreSeatsOf tables means.label_seat means.pool_seat
  pub taken_known : AreKnown known lists.taken.items
  pub fresh_known : AreKnown known lists.fresh.items

-- The lists have no entry.
pub record HoldNothing (lists : Lists) : Type 0 where
  pub taken : lists.taken.items ≡ []
  pub fresh : lists.fresh.items ≡ []

-- An arc of the network that is left within the horizon.
pub record MayLeave (network : Roads) (departure : ℕ) (arc : Arc) : Type 0 where
  pub in_time : departure ≤ HORIZON
  pub number : ℕ
  pub is_arc : IsArc network number arc

-- A push of all fresh entries with one drawn word: none is left exactly if the pool took all.
pub record PushesFresh (known : ℕ → ℕ → Type 0) (pool : pools.PoolView) (before after : pools.SeatView) (words words' : Stream) (fresh left : List Entry) (took_all : Bool) : Type 0 where
  pub of_pool : pools.IsSeatOf pool after
  pub progress : (history : SeatRecord) → Progress (kit history before.account words [] fresh) (kit history after.account words' [] left) [] 1 0
  pub left_known : AreKnown known left
  pub none : took_all ≡ true → left ≡ []
  pub some : took_all ≡ false → 0 < length left
  pub few : length left ≤ length fresh

-- A seat of the pool, and known entries to be pushed with it.
pub record MayPush (known : ℕ → ℕ → Type 0) (pool : pools.PoolView) (seat : pools.SeatView) (fresh : List Entry) : Type 0 where
  pub of_pool : pools.IsSeatOf pool seat
  pub fresh_known : AreKnown known fresh

module _ {K T E : Type 0} (known : ℕ → ℕ → Type 0) (problem : Problem) (answers : T → ℕ → ℕ → ℕ → ℕ → Type 0) (classes : T → ℕ) (ground : Ground K T E) where
  -- The ground is the problem's, and the pace is within the limits.
  pub record MayWork (pace : Pace) : Type 0 where
    pub is_ground : IsGround known problem answers classes ground
    pub is_pace : IsPace pace

  -- The seat was made by the label table of the problem's ground.
  pub record MayRead (seat : labels.SeatView) : Type 0 where
    pub is_ground : IsGround known problem answers classes ground
    pub seat_fits : seat.table ≡ ground.labels.now.table

  -- The same, and the entries are known.
  pub record MayReadAhead (seat : labels.SeatView) (entries : List Entry) : Type 0 where
    pub may_read : MayRead seat
    pub all_known : AreKnown known entries

  -- The ground is the problem's, the means fit it, there is room for one more fresh entry, and the entry is
  -- known.
  pub record MayScan {R : Type 0} (batch : ℕ) (means : Means K R E) (fresh : List Entry) (entry : Entry) : Type 0 where
    pub is_ground : IsGround known problem answers classes ground
    pub are_means : AreMeans known (tables_of ground) means fresh
    pub room : length fresh < batch
    pub batch_few : batch ≤ MOST_BATCH
    pub is_known : known entry.node entry.key

  -- The same, and the arc leaves the entry's node.
  pub record MayRelax {R : Type 0} (batch : ℕ) (means : Means K R E) (fresh : List Entry) (entry : Entry) (arc : Arc) : Type 0 where
    pub may_scan : MayScan batch means fresh entry
    pub number : ℕ
    pub is_arc : IsArc problem.network number arc
    pub tail_is : arc.tail ≡ entry.node

  -- The ground and the target are the problem's, the means and the entries held fit them, and there is room
  -- for one more fresh entry.
  pub record IsEquipped {R : Type 0} (target : Option ℕ) (batch : ℕ) (means : Means K R E) (lists : Lists) : Type 0 where
    pub is_ground : IsGround known problem answers classes ground
    pub target_is : target ≡ problem.query.target
    pub are_held : AreHeld known (tables_of ground) means lists
    pub room : length lists.fresh.items < batch
    pub batch_few : batch ≤ MOST_BATCH

  -- The same before a turn: fewer entries than a batch are taken.
  pub record MayTurn {R : Type 0} (target : Option ℕ) (batch : ℕ) (means : Means K R E) (lists : Lists) : Type 0 where
    pub equipped : IsEquipped target batch means lists
    pub few : array_vec_len lists.taken < batch

  -- The same before a visit: an entry is taken.
  pub record MayVisit {R : Type 0} (target : Option ℕ) (batch : ℕ) (means : Means K R E) (lists : Lists) : Type 0 where
    pub equipped : IsEquipped target batch means lists
    pub some : 0 < array_vec_len lists.taken

  -- The same before a pop: no entry is taken.
  pub record MayPop {R : Type 0} (target : Option ℕ) (batch : ℕ) (means : Means K R E) (lists : Lists) : Type 0 where
    pub equipped : IsEquipped target batch means lists
    pub none : lists.taken.items ≡ []
