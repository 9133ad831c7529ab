use Rattle.std.proofs.Common.{◌≡◌, ◌≤◌, ◌+◌, ◌*◌, ◌^◌, IfSome}
use Rattle.ea_report.specs.Asked.{shape_of}
use Rattle.ea_batch.specs.Drafts.{AreUnsent, SendsUpTo}
use Rattle.ea_batch.specs.Solved.{Serves}
use Rattle.ea_batch.proofs.parallel_reports.send_part.Given as goal

abbrev pub invariant-loop-k : goal.invariant-loop-k
invariant-loop-k g l = record {
  sent : SendsUpTo l.job l.span.from (l.span.from + l.k) (g.W.Device.seen l.fn.out) l.fn.progress.written (g.W.Device.seen l.out) l.progress.written;
  bound : l.progress.written ≤ (l.span.from + l.k) * 2 ^ 90;
  search : IfSome l.progress.search (Serves l.job.road.now.network l.job.shown.style.walks);
  aids : l.progress.aids ≡ l.fn.progress.aids;
  left : AreUnsent (shape_of l.job.shown) l.job.road.now l.job.queries.now l.span.from l.k l.ready;
}
