use Rattle.std.proofs.Common.{◌≡◌, ◌<◌, List, length, ap, arith, rules, subst, sym}
use Rattle.std.proofs.lemmas.List.{length-replicate}
use Rattle.earliest.specs.Counted.{KeepsOn}
use Rattle.earliest.proofs.Copied.{copy_at}
use Rattle.earliest.proofs.Counting.{one_of}
use Rattle.earliest.proofs.solver_choice.find_by.Goals as goal

pub solve_asked-requires-clause-workers : goal.solve_asked-requires-clause-workers
solve_asked-requires-clause-workers g c κs within =
    (c.requires.crew.workers, omega (arith, c.in_ok-tracers.tracers.ok.0, ap (λ (xs : List _). length xs) c.in_ok-tracers.ensures, length-replicate c.args.settings.workers c.args.tracer))

pub solve_asked-requires-clause-tracers : goal.solve_asked-requires-clause-tracers
solve_asked-requires-clause-tracers g c κs within =
    λ k d lt. subst (goal.T-IsAlwaysCallable g) (sym (copy_at c.args.tracer c.args.settings.workers c.in_ok-tracers.tracers.items c.in_ok-tracers.ensures k d lt)) c.requires.tracer

pub returns : goal.returns
returns g c =
    let solved = c.in_ok-solved.solved in
    let made = c.in_ok-solved.ensures.run in
    let settings = c.args.settings in
    let tracers = c.in_ok-tracers.tracers.items in
    let workers = solved.counters.items in
    let one_each : length workers ≡ settings.workers = omega (arith, solved.counters.ok.0, made.counters_len) in
    let rngs : length workers ≡ length c.args.rngs.items = omega (arith, one_each, c.args.rngs.ok.0, c.requires.crew.workers) in
    let copied : length tracers ≡ settings.workers = omega (arith, ap (λ (xs : List _). length xs) c.in_ok-tracers.ensures, length-replicate settings.workers c.args.tracer) in record {
      found = search rules;
      counted = (
        record { seeded = solved.seeded; returned = solved.returned; drained = solved.drained; finish = solved.finish; workers = workers },
        record {
          one_each = one_each;
          turns = λ k d lt.
              let inside : k < length c.args.rngs.items = omega (arith, lt, rngs) in
              let traced : k < length tracers = omega (arith, lt, one_each, copied) in
              let report = made.reports k d (one_of c.args.rngs.items k inside) (one_of tracers k traced) inside in
              record {
                turns = report.turns;
                lawful = report.lawful;
                counted = report.counted;
                stays = subst (KeepsOn (goal.T-step g) settings.workers) (sym (copy_at c.args.tracer settings.workers tracers c.in_ok-tracers.ensures k (one_of tracers k traced) traced)) c.requires.crew.stays report.turns _ report.shown;
              };
          tally = made.tally;
          lone = made.lone;
        },
        c.found_of.ensures.sums,
      );
    }
