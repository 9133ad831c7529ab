use Rattle.std.proofs.Common.{List, ap}
use Rattle.ea_engine.specs.declared.worker.counters.Counters.{Counters}
use Rattle.earliest.specs.Counted.{totals_by}
use Rattle.earliest.proofs.solver_choice.found_of.Goals as goal

pub returns-clause-sums : goal.returns-clause-sums
returns-clause-sums g c =
    let solved = c.args.solved in
    let sums = c.work_of-work.ensures.sums in
    rw (sums.pushed, sums.popped, sums.stale, sums.scanned)
    (ap (λ (ws : List Counters). totals_by (record { seeded = solved.seeded; returned = solved.returned; drained = solved.drained; finish = solved.finish; workers = ws })) c.deref.ensures.value)
