use Rattle.std.proofs.Common.{◌<◌, ◌-◌, ◌^◌, length, take}
use Rattle.ea_load.specs.Posed.{times_on}
use Rattle.ea_report.specs.Asked.{shape_of}
use Rattle.ea_batch.specs.Drafts.{CanSend}
use Rattle.ea_batch.specs.Sent.{AreSent}
use Rattle.ea_batch.proofs.parallel_reports.send_all.Given as goal

abbrev pub invariant-loop-sent : goal.invariant-loop-sent
invariant-loop-sent g l = record {
  fits : (g.W.Device.seen l.fn.out).interrupted < 2 ^ 64;
  sent : AreSent (shape_of l.job.shown) l.job.road.now.network (times_on l.job.road.now) (take l.sent l.job.queries.now) (g.W.Device.seen l.fn.out) (g.W.Device.seen l.out) l.progress.written;
  can : CanSend l.job l.sent l.progress l.lanes.desk.pile.items;
}

abbrev pub decreases-loop-sent : goal.decreases-loop-sent
decreases-loop-sent g l = length l.job.queries.now - l.sent
