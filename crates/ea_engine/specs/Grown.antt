-- Gathering the results of workers one by one: what that needs, and what one more adds.
use Rattle.std.specs.Prelude.{◌≡◌, ℕ, ◌+◌, ◌*◌, ◌^◌, ◌<◌, ◌≤◌, [], ◌∷◌, ◌++◌, Contains, length, Vec, vec_len}
use Rattle.std.specs.Vec.{vec_capacity}
use Rattle.ea_base.specs.declared.limits.TheConstants.{MOST_BATCH}
use Rattle.ea_search.specs.Worklist.{Worklist}
use Rattle.ea_labels.specs.declared.record.Bound.{Bound}
use Rattle.ea_engine.specs.declared.run.gathering.Gathering.{Gathering}
use Rattle.ea_engine.specs.declared.run.ran.Results.{Results}
use Rattle.ea_engine.specs.declared.run.row.Place.{Place}
use Rattle.ea_engine.specs.declared.run.seeds.Seeds.{Seeds}
use Rattle.ea_engine.specs.declared.worker.work_loop.WorkerEnd.{WorkerEnd}
use Rattle.ea_engine.specs.Ends.{IsEnd}
use Rattle.ea_engine.specs.Gathered.{AccountForAll}
use Rattle.ea_engine.specs.Openings.{HoldsBack, OpensUpTo}
use Rattle.ea_engine.specs.Problems.{Problem}
use Rattle.ea_engine.specs.Reserved.{AreUnfilled}
use Rattle.ea_engine.specs.Rowed.{AreGathered, IsDoneRow}
use Rattle.ea_engine.specs.Seated.{Tables}

-- The seats gathered so far account for all, there is room for one more worker's results, and the worker
-- began with fresh seats.
pub record MayJoin {K R F E : Type 0} (problem : Problem) (tables : Tables) (gathering : Gathering K R F E) (end : WorkerEnd K R F E) : Type 0 where
  pub account : AccountForAll problem tables problem.network.nodes gathering.seats gathering.todo
  pub counters_room : vec_len gathering.results.counters < vec_capacity gathering.results.counters
  pub rngs_room : vec_len gathering.results.rngs < vec_capacity gathering.results.rngs
  pub tracers_room : vec_len gathering.results.tracers < vec_capacity gathering.results.tracers
  pub returned_few : gathering.returned < 2 ^ 127
  pub is_end : IsEnd problem tables end

-- Before the results of this many workers are gathered: the worklist holds the nodes of the seeds that were
-- handed back.
pub record MayGather {R F : Type 0} (nodes back workers : ℕ) (todo : Worklist) (results : Results R F) : Type 0 where
  pub holds : HoldsBack nodes back todo
  pub unfilled : AreUnfilled workers results

-- The same for a row of workers that are done.
pub record MayGatherRow {K R F E Z : Type 0} (problem : Problem) (tables : Tables) (row : Vec (Place K R F E) Z) (seeds : Seeds) (todo : Worklist) (results : Results R F) : Type 0 where
  pub row_done : IsDoneRow problem tables seeds.seeded todo.waiting row.items
  pub may : MayGather problem.network.nodes seeds.returned (vec_len row) todo results

-- The room is the same.
pub record SameRoom {R F : Type 0} (before after : Results R F) : Type 0 where
  pub counters : vec_capacity after.counters ≡ vec_capacity before.counters
  pub rngs : vec_capacity after.rngs ≡ vec_capacity before.rngs
  pub tracers : vec_capacity after.tracers ≡ vec_capacity before.tracers

-- The worker's counters, generator and tracer are appended.
pub record AddsEnd {K R F E : Type 0} (end : WorkerEnd K R F E) (before after : Results R F) : Type 0 where
  pub counters : after.counters.items ≡ before.counters.items ++ end.counters ∷ []
  pub rngs : after.rngs.items ≡ before.rngs.items ++ end.rng ∷ []
  pub tracers : after.tracers.items ≡ before.tracers.items ++ end.tracer ∷ []

-- The gathering begins with the first worker's results, its shares, this worklist's storage and these results'
-- room.
pub record BeginsWith {K R F E : Type 0} (problem : Problem) (tables : Tables) (end : WorkerEnd K R F E) (seeds : Seeds) (todo : Worklist) (results : Results R F) (gathering : Gathering K R F E) : Type 0 where
  pub gathered : AreGathered problem tables seeds.seeded seeds.returned (end ∷ []) gathering
  pub label_shares : gathering.seats.label_seat.history.shares ≡ end.label_seat.history.shares
  pub pool_shares : gathering.seats.pool_seat.account.shares ≡ end.pool_seat.account.shares
  pub walks : gathering.todo.walks ≡ todo.walks
  pub room : SameRoom results gathering.results

-- The worker's pushes, pops and returned entries are counted, what it leaves is appended, the nodes of what it
-- hands back are opened, and each seat has one more share; the seats still account for all.
pub record Joins {K R F E : Type 0} (problem : Problem) (tables : Tables) (end : WorkerEnd K R F E) (before after : Gathering K R F E) : Type 0 where
  pub account : AccountForAll problem tables problem.network.nodes after.seats after.todo
  pub bounds : (b : Bound) → Contains before.seats.label_seat.history.bounds b → Contains after.seats.label_seat.history.bounds b
  pub pushed : length after.seats.pool_seat.account.pushed ≡ length before.seats.pool_seat.account.pushed + end.counters.pushed
  pub popped : length after.seats.pool_seat.account.popped ≡ length before.seats.pool_seat.account.popped + end.counters.popped
  pub returned : after.returned ≡ before.returned + end.counters.returned
  pub returned_few : end.counters.returned ≤ 2 * MOST_BATCH
  pub opens : OpensUpTo end.counters.returned before.todo after.todo
  pub results : AddsEnd end before.results after.results
  pub room : SameRoom before.results after.results
  pub label_shares : after.seats.label_seat.history.shares ≡ before.seats.label_seat.history.shares + 1
  pub pool_shares : after.seats.pool_seat.account.shares ≡ before.seats.pool_seat.account.shares + 1
