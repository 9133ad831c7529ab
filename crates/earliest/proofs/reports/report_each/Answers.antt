use Rattle.std.proofs.Common.{◌≡◌, ℕ, [], length, refl, sym, subst, ap, arith}
use Rattle.std.specs.Prelude.{IfSome}
use Rattle.std.proofs.lemmas.Option.{IfSome_then, slice_get_read}
use Rattle.earliest.specs.Ahead.{IsFoundAt}
use Rattle.ea_load.specs.Posed.{IsPosed, times_on}
use Rattle.earliest.specs.Counted.{AreTotals}
use Rattle.earliest.specs.Workers.{settings_by}
use Rattle.earliest.proofs.Counting.{totals_next}
use Rattle.ea_batch.proofs.Sent.{stops, sent_next, sent_none}
use Rattle.std.proofs.lemmas.List.{take_all}
use Rattle.ea_report.specs.Asked.{Shape, chosen_by, shape_of}
use Rattle.ea_batch.specs.Sent.{AreSent}
use Rattle.earliest.proofs.Sending.{cut_in_problem}
use Rattle.earliest.proofs.reports.report_each.Goals as goal

pub returns-in-Err : goal.returns-in-Err
returns-in-Err g c =
    let first = g.W.Device.seen c.args.out.now in
    let shown = c.args.watched.shown in
    let road = c.args.road.now in
    let cut = stops (shape_of shown) road.network (times_on road) c.args.queries.now c.loop-query.query-index c.query-item.result c.loop-query-test.true c.query-item.is first _ _ _ c.loop-query.invariant.sent _ c.in-Err.ensures.sends in
    cut_in_problem c.args.options.now (chosen_by shown) (shape_of shown) c.requires.run.asked road.network (times_on road) c.args.queries.now first _ _ cut

pub loop-query-preserved : goal.loop-query-preserved
loop-query-preserved g c =
    let i = c.loop-query.query-index in
    let inv = c.loop-query.invariant in
    let now = g.W.Device.seen c.report.new.out in
    let first = g.W.Device.seen c.args.out.now in
    record {
      done = omega (arith, inv.done);
      fits = inv.fits;
      sent = sent_next (shape_of c.args.watched.shown) c.args.road.now.network (times_on c.args.road.now) c.args.queries.now i c.query-item.result c.loop-query-test.true c.query-item.is first _ now _ c.report.new.self.progress.written inv.fits inv.sent c.in-Ok.ensures.sends.sent;
      bound = omega (arith, c.in-Ok.ensures.sends.bound, inv.bound);
      counted = λ asked. let more = c.in-Ok.ensures.adds.counted asked in totals_next (settings_by c.args.options.now) c.args.queries.now i c.query-item.result c.loop-query-test.true c.query-item.is _ _ (inv.counted asked) more.0 more.1 more.2;
      small = c.in-Ok.ensures.adds.more.small i inv.small;
      balanced = c.in-Ok.ensures.adds.more.balanced;
      aids = c.report.ensures.aided.aids;
      filled = c.take.ensures.filled;
      search = c.report.ensures.aided.search;
    }

pub loop-query-init : goal.loop-query-init
loop-query-init g c =
    let begun = c.begin-reports.ensures in
    let network = c.args.road.now.network in
    let times = times_on c.args.road.now in
    let first = g.W.Device.seen c.args.out.now in
    record {
      done = refl;
      fits = omega (arith, c.interruptions.ensures, c.interruptions.type_inv);
      sent = subst (λ n. AreSent (shape_of c.args.watched.shown) network times [] first first n) (sym begun.progress.written) (sent_none (shape_of c.args.watched.shown) network times first);
      bound = omega (arith, begun.progress.written);
      counted = λ asked. record { all = []; counted = tt; sums = begun.totals.none };
      small = begun.totals.small;
      balanced = begun.totals.balanced;
      aids = rw begun.progress.aids c.requires.run.aids;
      filled = c.over-ahead.ensures.filled c.args.road.now c.args.queries.now c.args.options.now;
      search = rw begun.progress.search tt;
    }

pub returns : goal.returns
returns g c =
    let road = c.args.road.now in
    let inv = c.loop-query.invariant in
    let end : c.loop-query.query-index ≡ length c.args.queries.now = omega (arith, c.loop-query-test.false, c.loop-query.auto.query-index-end) in
    let all = take_all c.loop-query.query-index c.args.queries.now (omega (arith, c.loop-query-test.false)) in
    record {
      sent = subst (λ qs. AreSent (shape_of c.args.watched.shown) road.network (times_on road) qs (g.W.Device.seen c.args.out.now) (g.W.Device.seen c.loop-query.out) c.loop-query.reports.progress.written) all inv.sent;
      bound = omega (arith, inv.bound, end, c.requires.run.reportable.few);
      counted = λ asked. subst (λ qs. AreTotals (settings_by c.args.options.now) qs c.loop-query.reports.totals) all (inv.counted asked);
      balanced = inv.balanced;
    }

pub report-requires-clause-run : goal.report-requires-clause-run
report-requires-clause-run g c κs lent =
    let road = c.args.road.now in
    let all = c.args.queries.now in
    let options = c.args.options.now in
    let i : ℕ = c.loop-query.query-index in
    let found = subst (λ (n : ℕ). IfSome c.take.result (IsFoundAt road all options n)) c.loop-query.invariant.done c.take.ensures.found in
    let inv = c.loop-query.invariant in
    let reportable = c.requires.run.reportable in
    let posed = subst (IsPosed road) (sym c.query-item.is) (reportable.problems c.loop-query.query-index c.query-item.result c.loop-query-test.true) in
    record {
      reportable = record { problem = posed.0; few_sources = posed.1; few_nodes = reportable.few_nodes; shown = reportable.shown };
      options_are = c.requires.run.options_are;
      walks = ap (λ (shape : Shape). shape.style.walks) c.requires.run.asked;
      running = record {
        room = omega (arith, inv.bound, reportable.few, c.loop-query-test.true);
        so_far = record {
          small = (c.loop-query.query-index, omega (arith, reportable.few, c.loop-query-test.true), inv.small);
          balanced = inv.balanced;
        };
      };
      aided = record { search = inv.search; aids = inv.aids };
      found = IfSome_then c.take.result found (λ result at. at.of c.query-item.result (slice_get_read all (length all) i c.query-item.result refl c.loop-query-test.true c.query-item.is));
    }
