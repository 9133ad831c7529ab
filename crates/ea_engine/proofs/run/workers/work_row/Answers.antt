use Rattle.std.proofs.Common.{◌≡◌, length, sym, ◌∙◌, ap, arith, subst}
use Rattle.ea_engine.specs.declared.settings.Pace.{Pace}
use Rattle.ea_engine.specs.Grounds.{tables_of}
use Rattle.ea_engine.specs.Limits.{pace_of}
use Rattle.ea_engine.specs.Rowed.{AreSeated}
use Rattle.ea_engine.specs.Rows.{IsRunRow}
use Rattle.ea_engine.proofs.DoneRows.{some_of, written, ready_row}
use Rattle.ea_engine.proofs.Settling.{gathered_start}
use Rattle.ea_engine.proofs.run.workers.work_row.Given as given
use Rattle.ea_engine.proofs.run.workers.work_row.Goals as goal
use Rattle.ea_engine.proofs.run.workers.work_row.Goals.{After-seat_workers}

pub seed_all-seeds-requires-clause-may : goal.seed_all-seeds-requires-clause-may
seed_all-seeds-requires-clause-may g c κs within =
    let reserved = c.requires.reserved in
    let seats = reserved.seats_new in
    record {
      is_ground = c.requires.ground;
      account = record {
        fit = seats.fit;
        gathered = gathered_start _ _ _ _ seats.history seats.account.1 seats.account.2;
        nodes_are = reserved.todo_nodes;
      };
    }

pub seat_workers-requires-clause-shares : goal.seat_workers-requires-clause-shares
seat_workers-requires-clause-shares g c κs within =
    let seats = c.requires.reserved.seats_new in
    let step = c.seed_all-seeds.ensures.step in
    record { fit = c.seed_all-seeds.ensures.account.fit; labels = step.label_shares ∙ ap (λ r. r.shares) seats.history; pool = step.pool_shares ∙ seats.account.0 }

pub seat_workers-requires-clause-may : goal.seat_workers-requires-clause-may
seat_workers-requires-clause-may g c κs within =
    let room = c.requires.reserved.room in
    let crew = c.requires.crew in
    record {
      some_worker = omega (arith, crew.rngs, crew.settings.some_worker);
      few_workers = omega (arith, crew.rngs, crew.settings.workers);
      tracers_len = crew.tracers ∙ sym crew.rngs;
      room = record {
        others_empty = record { none = room.others_empty.none; room = omega (arith, room.others_empty.room, crew.rngs) };
        row_empty = record { none = room.row_empty.none; room = omega (arith, room.row_empty.room, crew.rngs) };
      };
    }

-- the workers are seated, the first with the seats of the seeding
seated : (g : _) (c : After-seat_workers g) → AreSeated g.K.Posed.problem (tables_of c.args.ground.now) c.seed_all-seeds.result.seeded c.seed_all-seeds.new.todo.waiting c.args.crew.rngs.items c.args.crew.tracers.items c.seat_workers.new.row.items
seated g c = c.seat_workers.ensures.seated _ _ (record {
  fit = c.seed_all-seeds.ensures.account.fit;
  gathered = c.seed_all-seeds.ensures.account.gathered;
  offered = c.seed_all-seeds.ensures.offered;
  pushed = omega (arith, c.seed_all-seeds.ensures.step.pushed_is, ap length c.requires.reserved.seats_new.account.1);
  popped = c.seed_all-seeds.ensures.step.popped_is ∙ c.requires.reserved.seats_new.account.2;
})

pub run_workers-requires-clause-ready : goal.run_workers-requires-clause-ready
run_workers-requires-clause-ready g c κs within =
    let crew = c.requires.crew in
    let rng = some_of c.args.crew.rngs.items (omega (arith, crew.settings.some_worker, crew.rngs, c.args.crew.rngs.ok)) in
    let tracer = some_of c.args.crew.tracers.items (omega (arith, crew.settings.some_worker, crew.tracers, c.args.crew.tracers.ok)) in
    rw c.deref_mut.ensures.value (ready_row g.K.Posed.problem (tables_of c.args.ground.now) g.R.Rng.stream (given.F-step g) c.pace.result (rw c.pace.ensures crew.settings.batch)
    (given.F-IsAlwaysCallable g) c.args.crew.rngs.items c.args.crew.tracers.items c.seat_workers.new.row.items rng tracer c.seed_all-seeds.result.seeded c.seed_all-seeds.new.todo.waiting
    (seated g (goal.at.run_workers-requires-clause-ready g c).After-seat_workers) crew.callable_all (omega (arith, c.seat_workers.ensures.len, crew.rngs, crew.tracers)) (omega (arith, c.seat_workers.ensures.len, crew.rngs, crew.settings.workers)))

pub returns-clause-worked : goal.returns-clause-worked
returns-clause-worked g c =
    let began = c.seat_workers.new.row in
    let row = c.run_workers.new.row in
    let same : length row ≡ length began.items = omega (arith, c.run_workers.auto.row, ap length c.deref_mut.ensures.value) in
    let is = written began.len began.items row (began.ok.0) same in
    let ran = subst (λ (p : Pace). IsRunRow g.K.Posed.problem (tables_of c.args.ground.now) g.R.Rng.stream (given.F-step g) p began.items row) c.pace.ensures (rw c.deref_mut.ensures.value at c.run_workers.ensures.run) in
    record {
      before = began.items;
      seated = seated g (goal.at.returns-clause-worked g c).After-seat_workers;
      ran = subst (λ places. IsRunRow g.K.Posed.problem (tables_of c.args.ground.now) g.R.Rng.stream (given.F-step g) (pace_of c.args.crew.settings) began.items places) (sym is) ran;
      row_len = ap length is ∙ same;
      rngs_len = omega (arith, c.seat_workers.ensures.len, c.args.crew.rngs.ok, began.ok);
    }

pub returns-clause-seeding : goal.returns-clause-seeding
returns-clause-seeding g c =
    let opens = c.seed_all-seeds.ensures.opens in
    let offered = c.seed_all-seeds.ensures in
    let none = ap length c.requires.reserved.todo_waiting in
    record {
      small = offered.small;
      counted = offered.counted c.requires.reserved.seats_new.history;
      todo = record {
        nodes_are = opens.nodes_are;
        back_few = omega (arith, offered.small);
        few = omega (arith, opens.few, none);
        some = λ some. opens.some (omega (arith, some, none));
      };
      walks_are = opens.walks_are;
    }
