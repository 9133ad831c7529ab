-- The results of a row, and those gathered from its first places.
use Rattle.std.specs.Prelude.{◌≡◌, ℕ, ◌+◌, ◌*◌, ◌^◌, ◌<◌, ◌≤◌, List, [], ◌∷◌, map, length, All, sum_by, Bool, Vec, vec_len}
use Rattle.rand_core.specs.Stream.{Stream}
use Rattle.ea_road.specs.Queries.{Asking}
use Rattle.ea_road.specs.Roads.{Roads}
use Rattle.ea_search.specs.Underway.{IsUnderway}
use Rattle.ea_search.specs.Worklist.{Worklist}
use Rattle.ea_pool.specs.declared.shared.account.Account.{Account}
use Rattle.ea_engine.specs.declared.run.closing.Settled.{Settled}
use Rattle.ea_base.specs.declared.limits.TheConstants.{MOST_BATCH, MOST_WORKERS}
use Rattle.ea_engine.specs.declared.run.gathering.Gathering.{Gathering}
use Rattle.ea_engine.specs.declared.worker.means.Seats.{Seats}
use Rattle.ea_engine.specs.declared.run.ran.Ran.{Ran}
use Rattle.ea_engine.specs.declared.run.seeds.Seeds.{Seeds}
use Rattle.ea_engine.specs.declared.run.workers.Begun.{Begun}
use Rattle.ea_engine.specs.declared.run.row.Place.{Place}
use Rattle.ea_engine.specs.declared.run.row.Place.TheVariants as place
use Rattle.ea_engine.specs.declared.settings.Pace.{Pace}
use Rattle.ea_engine.specs.declared.worker.turn.Flow.{Flow}
use Rattle.ea_engine.specs.declared.worker.turn.Turn.{Turn}
use Rattle.ea_engine.specs.declared.worker.work_loop.WorkerEnd.{WorkerEnd}
use Rattle.ea_engine.specs.Ends.{AreFresh, IsEndPlace}
use Rattle.ea_engine.specs.Gathered.{AccountForAll, IsGathered, IsHanded}
use Rattle.ea_engine.specs.Opened.{AreOffered}
use Rattle.ea_engine.specs.Openings.{OpensUpTo}
use Rattle.ea_engine.specs.Problems.{Problem}
use Rattle.ea_engine.specs.Rows.{IsSeatedRow, IsRunRow}
use Rattle.ea_engine.specs.Seated.{Tables, AreSeatsOf, HaveAllShares}
use Rattle.ea_engine.specs.Worked.{IsHandInside, hand_size}

-- A worker that is done is at each place.
abbrev pub all_done : {K R T E : Type 0} → List (WorkerEnd K R T E) → List (Place K R T E)
all_done [] = []
all_done (end ∷ ends) = place.Done end ∷ all_done ends

abbrev pub IsDonePlace : {K R T E : Type 0} → Place K R T E → Type 0
IsDonePlace (place.Ready r) = ⊥
IsDonePlace place.Running = ⊥
IsDonePlace (place.Done end) = Unit {0}

module _ {K E : Type 0} (problem : Problem) (tables : Tables) where
  -- The seats of the seeding before the workers start, with the number of entries that the pool took.
  pub record IsSeeded (seeded : ℕ) (waiting : List ℕ) (seats : Seats K E) : Type 0 where
    pub fit : AreSeatsOf tables seats.label_seat seats.pool_seat
    pub gathered : IsGathered problem seats.label_seat.history seats.pool_seat.account waiting
    pub offered : AreOffered problem.query.sources seats.label_seat.history
    pub pushed : length seats.pool_seat.account.pushed ≡ seeded
    pub popped : seats.pool_seat.account.popped ≡ []

module _ {K R T E : Type 0} (problem : Problem) (tables : Tables) where
  -- The results of the first worker, which began with the seats of the seeding.
  pub record IsFirstEnd (seeded : ℕ) (waiting : List ℕ) (end : WorkerEnd K R T E) : Type 0 where
    pub fit : AreSeatsOf tables end.label_seat end.pool_seat
    pub handed : IsHanded problem end.label_seat.history end.pool_seat.account end.hand waiting
    pub inside : IsHandInside problem.network.nodes end.hand
    pub offered : AreOffered problem.query.sources end.label_seat.history
    pub pushed_is : length end.pool_seat.account.pushed ≡ seeded + end.counters.pushed
    pub pushed_few : end.counters.pushed ≤ 2 ^ 62
    pub popped_is : length end.pool_seat.account.popped ≡ end.counters.popped
    pub returned_is : end.counters.returned ≡ hand_size end.hand
    pub returned_few : hand_size end.hand ≤ 2 * MOST_BATCH

  -- The row before the workers start: the first has the seats of the seeding, the others fresh ones.
  pub record AreSeated (seeded : ℕ) (waiting : List ℕ) (rngs : List R) (tracers : List T) (row : List (Place K R T E)) : Type 0 where
    pub main : Seats K E
    pub fresh : List (Seats K E)
    pub seated : IsSeatedRow (main ∷ fresh) rngs tracers row
    pub length_is : length row ≡ 1 + length fresh
    pub seeds : IsSeeded problem tables seeded waiting main
    pub all_fresh : All (AreFresh tables) fresh
    pub label_shares : main.label_seat.history.shares + length fresh ≡ 64
    pub pool_shares : main.pool_seat.account.shares + length fresh ≡ 64

  -- Each of these workers has its place, and the row is seated if its first seats are those of the seeding.
  pub record SeatsWorkers {X Y Z : Type 0} (seats : Seats K E) (rngs : Vec R X) (tracers : Vec T Y) (row : Vec (Place K R T E) Z) : Type 0 where
    pub len : vec_len row ≡ vec_len rngs
    pub seated : (seeded : ℕ) (waiting : List ℕ) → IsSeeded problem tables seeded waiting seats → AreSeated seeded waiting rngs.items tracers.items row.items

  -- Each worker is done: the first one, and those that began with fresh seats.
  pub record IsDoneRow (seeded : ℕ) (waiting : List ℕ) (row : List (Place K R T E)) : Type 0 where
    pub first : WorkerEnd K R T E
    pub others : List (Place K R T E)
    pub row_is : row ≡ place.Done first ∷ others
    pub few : length row ≤ MOST_WORKERS
    pub first_end : IsFirstEnd seeded waiting first
    pub other_ends : All (IsEndPlace problem tables) others
    pub label_shares : first.label_seat.history.shares + length others ≡ 64
    pub pool_shares : first.pool_seat.account.shares + length others ≡ 64

  -- The gathered results of some workers, the first among them, for the numbers of seeds that the pool took
  -- and handed back.
  pub record AreGathered (seeded back : ℕ) (ends : List (WorkerEnd K R T E)) (gathering : Gathering K R T E) : Type 0 where
    pub account : AccountForAll problem tables problem.network.nodes gathering.seats gathering.todo
    pub offered : AreOffered problem.query.sources gathering.seats.label_seat.history
    pub counters_are : gathering.results.counters.items ≡ map (λ end. end.counters) ends
    pub rngs_are : gathering.results.rngs.items ≡ map (λ end. end.rng) ends
    pub tracers_are : gathering.results.tracers.items ≡ map (λ end. end.tracer) ends
    pub pushed_is : length gathering.seats.pool_seat.account.pushed ≡ seeded + sum_by (λ end. end.counters.pushed) ends
    pub pushed_few : length gathering.seats.pool_seat.account.pushed ≤ seeded + length ends * 2 ^ 62
    pub popped_is : length gathering.seats.pool_seat.account.popped ≡ sum_by (λ end. end.counters.popped) ends
    pub returned_is : gathering.returned ≡ back + sum_by (λ end. end.counters.returned) ends
    pub returned_few : gathering.returned ≤ back + 2 * MOST_BATCH * length ends
    pub few : length gathering.todo.waiting ≤ gathering.returned
    pub some : 0 < gathering.returned → 0 < length gathering.todo.waiting

  -- The gathered results of all workers of a row: the seats have all shares, and the worklist has storage for
  -- walks if they are asked for.
  pub record IsGatheredRow (seeded back : ℕ) (walks : Bool) (row : List (Place K R T E)) (gathering : Gathering K R T E) : Type 0 where
    pub ends : List (WorkerEnd K R T E)
    pub row_is : row ≡ all_done ends
    pub all : AreGathered seeded back ends gathering
    pub shares : HaveAllShares tables gathering.seats
    pub walks_are : gathering.todo.walks ≡ walks

-- The seats of all workers are joined: they have all shares, the worklist has what they don't account for, and
-- each source was offered.
pub record AreAllJoined {K E : Type 0} (problem : Problem) (tables : Tables) (nodes : ℕ) (seats : Seats K E) (todo : Worklist) : Type 0 where
  pub account : AccountForAll problem tables nodes seats todo
  pub shares : HaveAllShares tables seats
  pub offered : AreOffered problem.query.sources seats.label_seat.history
  pub few : length seats.pool_seat.account.pushed < 2 ^ 127

-- The tables are closed: the finishing pass may begin, and what was pushed was popped or drained.
pub record HasSettled (problem : Problem) (account : Account) (before : Worklist) (settled : Settled) : Type 0 where
  pub underway : IsUnderway problem.network problem.answers problem.query settled.table.items settled.todo.waiting
  pub nodes_are : settled.todo.nodes ≡ problem.network.nodes
  pub drained : length account.pushed ≡ length account.popped + settled.drained
  pub opens : OpensUpTo settled.drained before settled.todo

-- The finishing pass may begin with this table and worklist, which has storage for walks if they are asked for.
pub record HasBegun {R T : Type 0} (network : Roads) (answers : ℕ → ℕ → ℕ → ℕ → Type 0) (query : Asking) (walks : Bool) (begun : Begun R T) : Type 0 where
  pub underway : IsUnderway network answers query begun.table.items begun.todo.waiting
  pub nodes_are : begun.todo.nodes ≡ network.nodes
  pub walks_are : begun.todo.walks ≡ walks

module _ {K R T E : Type 0} where
  -- How a run went after its row was gathered and its pool drained, for the numbers of seeds that the pool
  -- took and handed back.
  pub record IsSettledRow (seeded back : ℕ) (row : List (Place K R T E)) (ran : Ran R T) : Type 0 where
    pub ends : List (WorkerEnd K R T E)
    pub row_is : row ≡ all_done ends
    pub counters_are : ran.results.counters.items ≡ map (λ end. end.counters) ends
    pub rngs_are : ran.results.rngs.items ≡ map (λ end. end.rng) ends
    pub tracers_are : ran.results.tracers.items ≡ map (λ end. end.tracer) ends
    pub seeded_is : ran.seeded ≡ seeded
    pub returned_is : ran.returned ≡ back + sum_by (λ end. end.counters.returned) ends
    pub balance : seeded + sum_by (λ end. end.counters.pushed) ends ≡ sum_by (λ end. end.counters.popped) ends + ran.drained
    pub few_open : ran.finish ≤ ran.drained + ran.returned
    pub some_open : 0 < ran.drained + ran.returned → 0 < ran.finish

-- A row was gathered and its pool drained: how the run went, and the finishing pass may begin.
pub record SettlesRow {K R T E : Type 0} (problem : Problem) (seeds : Seeds) (walks : Bool) (row : List (Place K R T E)) (begun : Begun R T) : Type 0 where
  pub begun_is : HasBegun problem.network problem.answers problem.query walks begun
  pub row_is : IsSettledRow seeds.seeded seeds.returned row begun.ran

module _ {K R T E : Type 0} (problem : Problem) (tables : Tables) (stream : R → Stream) (shows : T → Turn → Flow → T → Type 0) (pace : Pace) where
  -- The workers of a row are done, and began as they were seated.
  pub record HaveWorked (seeded : ℕ) (waiting : List ℕ) (rngs : List R) (tracers : List T) (row : List (Place K R T E)) : Type 0 where
    pub before : List (Place K R T E)
    pub seated : AreSeated problem tables seeded waiting rngs tracers before
    pub ran : IsRunRow problem tables stream shows pace before row
    pub row_len : length row ≡ length before
    pub rngs_len : length before ≡ length rngs
