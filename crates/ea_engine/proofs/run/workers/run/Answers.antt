use Rattle.std.proofs.Common.{◌≡◌, length, arith, ap, sym, ◌∙◌}
use Rattle.ea_engine.specs.Seated.{tables}
use Rattle.ea_engine.proofs.GroundLemmas.{underway_of}
use Rattle.ea_engine.proofs.RunLemmas.{worked_done, run_of}
use Rattle.ea_engine.proofs.run.workers.run.Given as given
use Rattle.ea_engine.proofs.run.workers.run.Goals as goal

pub work_row-seeds-requires-clause-reserved : goal.work_row-seeds-requires-clause-reserved
work_row-seeds-requires-clause-reserved g c κs within =
    let reserved = c.requires.arrays.reserved in
    record {
      seats_new = reserved.seats_new;
      todo_nodes = reserved.todo_nodes ∙ sym c.requires.arrays.nodes_are;
      todo_waiting = reserved.todo_waiting;
      room = reserved.room;
    }

pub ground_is_laid-requires-clause-places : goal.ground_is_laid-requires-clause-places
ground_is_laid-requires-clause-places g c κs within = c.requires.arrays.nodes_are

pub settle_row-requires-clause-posed : goal.settle_row-requires-clause-posed
settle_row-requires-clause-posed g c κs within = record { posed = c.ground_is_laid.ensures.posed; nodes_are = c.ground_is_laid.ensures.places_are }

pub settle_row-requires-clause-row : goal.settle_row-requires-clause-row
settle_row-requires-clause-row g c κs within =
    let crew = c.requires.call.is_crew in
    let some = crew.settings.some_worker in
    let worked = c.work_row-seeds.ensures.worked in
    let todo = c.work_row-seeds.ensures.seeding.todo in
    let arrays = c.requires.arrays in
    let room = arrays.results in
    let row = c.work_row-seeds.new.row in
    let len : length row.items ≡ c.args.crew.settings.workers = omega (arith, worked.row_len, worked.rngs_len, crew.rngs, c.args.crew.rngs.ok) in
    record {
      row_done = worked_done g.K.Posed.problem (tables c.args.arrays.labels c.args.arrays.pool) g.R.Rng.stream (given.F-step g) _ _ _ _ _ _ worked crew.settings.batch
          (omega (arith, crew.settings.workers, crew.rngs, c.args.crew.rngs.ok))
          (omega (arith, some, crew.rngs, c.args.crew.rngs.ok)) (omega (arith, some, crew.tracers, c.args.crew.tracers.ok));
      may = record {
        holds = record { nodes_are = todo.nodes_are ∙ arrays.reserved.todo_nodes ∙ ap (λ n. n.nodes) c.requires.call.named.named.network_is; back_few = todo.back_few; few = todo.few; some = todo.some };
        unfilled = record {
          counters = room.counters;
          rngs = room.rngs;
          tracers = room.tracers;
          counters_room = omega (arith, room.counters_room, len, row.ok);
          rngs_room = omega (arith, room.rngs_room, len, row.ok);
          tracers_room = omega (arith, room.tracers_room, len, row.ok);
        };
      };
    }

pub settle_row-requires-clause-small : goal.settle_row-requires-clause-small
settle_row-requires-clause-small g c κs within = c.work_row-seeds.ensures.seeding.small

pub returns : goal.returns
returns g c =
    let begun = c.settle_row.ensures.begun_is in
    let named = c.requires.call.named.named in
    record {
      begun_is = record {
        underway = underway_of _ _ _ _ _ named _ _ begun.underway;
        nodes_are = begun.nodes_are ∙ sym (ap (λ n. n.nodes) named.network_is);
        walks_are = begun.walks_are ∙ c.work_row-seeds.ensures.seeding.walks_are;
      };
      run = run_of g.K.Posed.problem (tables c.args.arrays.labels c.args.arrays.pool) g.R.Rng.stream (given.F-step g) (given.F-IsAlwaysCallable g) c.args.crew c.requires.call.is_crew _ _ _ _ _
          c.work_row-seeds.ensures.worked c.settle_row.ensures.row_is g.K.Known.is_known c.args.network.now (g.T.TravelTimes.answers c.args.times.now) c.args.query.now named c.requires.arrays.heaps_are c.work_row-seeds.ensures.seeding.counted;
    }
