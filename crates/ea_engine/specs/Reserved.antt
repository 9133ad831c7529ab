-- The arrays of a run, before any worker starts.
use Rattle.std.specs.Prelude.{◌≡◌, ℕ, ◌≤◌, [], Bool, Vec, vec_len}
use Rattle.std.specs.Vec.{vec_capacity}
use Rattle.ea_labels.specs.Core.{first_record}
use Rattle.ea_base.specs.declared.limits.TheConstants.{MOST_WORKERS, SHARES}
use Rattle.ea_search.specs.Worklist.{Worklist}
use Rattle.ea_pool.specs.Pools.{Opened}
use Rattle.ea_pool.specs.Seats.{heaps_of}
use Rattle.ea_engine.specs.declared.run.arrays.Arrays.{Arrays}
use Rattle.ea_engine.specs.declared.run.arrays.Rooms.{Rooms}
use Rattle.ea_engine.specs.declared.worker.means.Seats.{Seats}
use Rattle.ea_engine.specs.declared.run.ran.Results.{Results}
use Rattle.ea_engine.specs.declared.run.row.Place.{Place}
use Rattle.ea_engine.specs.Rows.{IsSeatedRow}
use Rattle.ea_engine.specs.Seated.{Tables, tables, AreSeatsOf}

-- No item yet, and room for this many.
pub record IsEmptyFor {X Z : Type 0} (count : ℕ) (items : Vec X Z) : Type 0 where
  pub none : items.items ≡ []
  pub room : count ≤ vec_capacity items

-- The same for the other seats and the places of this many workers.
pub record HaveRoom {K R T E Y Z : Type 0} (workers : ℕ) (others : Vec (Seats K E) Y) (row : Vec (Place K R T E) Z) : Type 0 where
  pub others_empty : IsEmptyFor workers others
  pub row_empty : IsEmptyFor workers row

-- The same for up to the most workers, each with its generator and its tracer.
pub record MaySeatAll {K R T E W X Y Z : Type 0} (others : Vec (Seats K E) W) (rngs : Vec R X) (tracers : Vec T Y) (row : Vec (Place K R T E) Z) : Type 0 where
  pub some_worker : 1 ≤ vec_len rngs
  pub few_workers : vec_len rngs ≤ MOST_WORKERS
  pub tracers_len : vec_len tracers ≡ vec_len rngs
  pub room : HaveRoom (vec_len rngs) others row

-- No place yet, and room for these workers, each with its seats, its generator and its tracer.
pub record MaySeat {K R T E W X Y Z : Type 0} (seats : Vec (Seats K E) W) (rngs : Vec R X) (tracers : Vec T Y) (row : Vec (Place K R T E) Z) : Type 0 where
  pub row_empty : IsEmptyFor (vec_len rngs) row
  pub seats_len : vec_len seats ≡ vec_len rngs
  pub tracers_len : vec_len tracers ≡ vec_len rngs

-- Each of these workers has its place in the row.
pub record HaveSeated {K R T E W X Y Z : Type 0} (seats : Vec (Seats K E) W) (rngs : Vec R X) (tracers : Vec T Y) (row : Vec (Place K R T E) Z) : Type 0 where
  pub len : vec_len row ≡ vec_len rngs
  pub seated : IsSeatedRow seats.items rngs.items tracers.items row.items

-- No results yet, and room for those of this many workers.
pub record AreUnfilled {R T : Type 0} (workers : ℕ) (results : Results R T) : Type 0 where
  pub counters : results.counters.items ≡ []
  pub rngs : results.rngs.items ≡ []
  pub tracers : results.tracers.items ≡ []
  pub counters_room : workers ≤ vec_capacity results.counters
  pub rngs_room : workers ≤ vec_capacity results.rngs
  pub tracers_room : workers ≤ vec_capacity results.tracers

-- Room for this many workers, and no entry yet.
pub record AreRooms {K R T E : Type 0} (workers : ℕ) (rooms : Rooms K R T E) : Type 0 where
  pub rooms_are : HaveRoom workers rooms.others rooms.row
  pub results : AreUnfilled workers rooms.results

-- The first seats of new tables, with all shares: nothing was seen, pushed or popped.
pub record AreNew {K E : Type 0} (tables : Tables) (seats : Seats K E) : Type 0 where
  pub fit : AreSeatsOf tables seats.label_seat seats.pool_seat
  pub history : seats.label_seat.history ≡ first_record
  pub account : Opened SHARES seats.pool_seat.account

-- New seats of these tables, an empty worklist for this many nodes, and room for this many workers.
pub record AreReserved {K R T E Y Z : Type 0} (tables : Tables) (nodes workers : ℕ) (seats : Seats K E) (todo : Worklist) (others : Vec (Seats K E) Y) (row : Vec (Place K R T E) Z) : Type 0 where
  pub seats_new : AreNew tables seats
  pub todo_nodes : todo.nodes ≡ nodes
  pub todo_waiting : todo.waiting ≡ []
  pub room : HaveRoom workers others row

-- New tables with their first seats, for this many nodes and heaps; an empty worklist, with room for walks if
-- they are asked for; and room for this many workers.
pub record AreArrays {K R T E : Type 0} (nodes heaps workers : ℕ) (walks : Bool) (arrays : Arrays K R T E) : Type 0 where
  pub nodes_are : arrays.labels.nodes ≡ nodes
  pub heaps_are : heaps_of arrays.pool ≡ heaps
  pub reserved : AreReserved (tables arrays.labels arrays.pool) nodes workers arrays.seats arrays.todo arrays.others arrays.row
  pub todo_walks : arrays.todo.walks ≡ walks
  pub results : AreUnfilled workers arrays.results
