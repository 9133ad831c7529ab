use Rattle.std.proofs.Common.{[], arith, ap}
use Rattle.std.proofs.lemmas.List.Sums.{sum_by_more}
use Rattle.ea_engine.specs.declared.worker.counters.Counters.{Counters}
use Rattle.earliest.specs.declared.totals.Work.{Work}
use Rattle.ea_engine.specs.Turns.{counters_of}
use Rattle.earliest.proofs.totals.work_of.Goals as goal

pub loop-counted-preserved : goal.loop-counted-preserved
loop-counted-preserved c =
    let i = c.loop-counted.counted-index in
    let all = c.args.counters.now in
    let pushed = sum_by_more (λ (c : Counters). c.pushed) all i (counters_of []) c.loop-counted-test.true in
    let popped = sum_by_more (λ (c : Counters). c.popped) all i (counters_of []) c.loop-counted-test.true in
    let stale = sum_by_more (λ (c : Counters). c.stale) all i (counters_of []) c.loop-counted-test.true in
    let scanned = sum_by_more (λ (c : Counters). c.scanned) all i (counters_of []) c.loop-counted-test.true in
    let returned = sum_by_more (λ (c : Counters). c.returned) all i (counters_of []) c.loop-counted-test.true in
    let added = c.add_work.ensures.added in
    let few = c.add_work.ensures.few in
    let before = c.loop-counted.invariant in
    record {
      pushed_is = cc;
      popped_is = cc;
      stale_is = cc;
      scanned_is = cc;
      returned_is = cc;
      few_pushed = omega (arith, ap (λ (w : Work). w.pushed) added, few.0, before.few_pushed);
      few_popped = omega (arith, ap (λ (w : Work). w.popped) added, few.1, before.few_popped);
      few_stale = omega (arith, ap (λ (w : Work). w.stale) added, few.2, before.few_stale);
      few_scanned = omega (arith, ap (λ (w : Work). w.scanned) added, few.3, before.few_scanned);
      few_returned = omega (arith, ap (λ (w : Work). w.returned) added, few.4, before.few_returned);
    }
