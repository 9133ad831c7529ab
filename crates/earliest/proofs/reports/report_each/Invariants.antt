use Rattle.std.proofs.Common.{◌≡◌, ◌≤◌, ◌<◌, ◌*◌, true, ◌^◌, take, IfSome}
use Rattle.earliest.specs.Ahead.{AreFilled}
use Rattle.earliest.specs.Counted.{AreBalanced, AreSmall, AreTotals}
use Rattle.ea_load.specs.Posed.{times_on}
use Rattle.ea_batch.specs.Sent.{AreSent}
use Rattle.ea_batch.specs.Solved.{AreAidsOn, Serves}
use Rattle.ea_report.specs.Asked.{shape_of}
use Rattle.earliest.specs.Workers.{settings_by}
use Rattle.earliest.proofs.reports.report_each.Given as goal

abbrev pub invariant-loop-query : goal.invariant-loop-query
invariant-loop-query g l = record {
  done : l.done ≡ l.query-index;
  fits : (g.W.Device.seen l.fn.out).interrupted < 2 ^ 64;
  sent : AreSent (shape_of l.shown) l.road.network (times_on l.road) (take l.query-index l.queries) (g.W.Device.seen l.fn.out) (g.W.Device.seen l.out) l.reports.progress.written;
  bound : l.reports.progress.written ≤ l.query-index * 2 ^ 90;
  counted : l.options.stats ≡ true → AreTotals (settings_by l.options) (take l.query-index l.queries) l.reports.totals;
  small : AreSmall l.query-index l.reports.totals;
  balanced : AreBalanced l.reports.totals;
  aids : AreAidsOn l.road l.reports.progress.aids;
  filled : AreFilled l.road l.queries l.options l.ahead;
  search : IfSome l.reports.progress.search (Serves l.road.network l.shown.style.walks);
}
