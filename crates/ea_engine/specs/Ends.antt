-- Fresh seats, and the results of a worker that began with them.
use Rattle.std.specs.Prelude.{◌≡◌, ◌*◌, ◌<◌, ◌≤◌, ◌^◌, [], length}
use Rattle.ea_base.specs.declared.limits.TheConstants.{MOST_BATCH}
use Rattle.ea_engine.specs.declared.run.row.Place.{Place}
use Rattle.ea_engine.specs.declared.run.row.Place.TheVariants as place
use Rattle.ea_engine.specs.declared.worker.means.Seats.{Seats}
use Rattle.ea_engine.specs.declared.worker.work_loop.WorkerEnd.{WorkerEnd}
use Rattle.ea_engine.specs.Closed.{IsClosedAccount}
use Rattle.ea_engine.specs.Problems.{Problem}
use Rattle.ea_engine.specs.Seated.{Tables, AreSeatsOf}
use Rattle.ea_engine.specs.Worked.{IsHandInside, back_of, hand_size}

-- Seats that were just split off: one share each, and no event.
pub record AreFresh {K E : Type 0} (tables : Tables) (seats : Seats K E) : Type 0 where
  pub fit : AreSeatsOf tables seats.label_seat seats.pool_seat
  pub lowerings : seats.label_seat.history.lowerings ≡ []
  pub pushed : seats.pool_seat.account.pushed ≡ []
  pub popped : seats.pool_seat.account.popped ≡ []
  pub label_share : seats.label_seat.history.shares ≡ 1
  pub pool_share : seats.pool_seat.account.shares ≡ 1

module _ {K R T E : Type 0} (problem : Problem) (tables : Tables) where
  -- The results of a worker that began with fresh seats.
  pub record IsEnd (end : WorkerEnd K R T E) : Type 0 where
    pub fit : AreSeatsOf tables end.label_seat end.pool_seat
    pub closed : IsClosedAccount problem end.label_seat.history end.pool_seat.account (back_of end.hand) end.hand.fresh.items
    pub inside : IsHandInside problem.network.nodes end.hand
    pub pushed_is : length end.pool_seat.account.pushed ≡ end.counters.pushed
    pub pushed_few : end.counters.pushed < 2 ^ 62
    pub popped_is : length end.pool_seat.account.popped ≡ end.counters.popped
    pub returned_is : end.counters.returned ≡ hand_size end.hand
    pub returned_few : hand_size end.hand ≤ 2 * MOST_BATCH
    pub label_share : end.label_seat.history.shares ≡ 1
    pub pool_share : end.pool_seat.account.shares ≡ 1

  abbrev pub IsEndPlace : Place K R T E → Type 0
  IsEndPlace (place.Ready r) = ⊥
  IsEndPlace place.Running = ⊥
  IsEndPlace (place.Done end) = IsEnd end
