use Rattle.std.proofs.Common.{◌≤◌}
use Rattle.ea_batch.specs.Drafts.{CanSend, SendsUpTo}
use Rattle.ea_batch.proofs.parallel_reports.send_round.Given as goal

abbrev pub invariant-loop : goal.invariant-loop
invariant-loop g l = record {
  went : SendsUpTo l.job l.from l.sent (g.W.Device.seen l.fn.out) l.fn.progress.written (g.W.Device.seen l.out) l.progress.written;
  onward : l.from ≤ l.sent;
  can : CanSend l.job l.sent l.progress l.desk.pile.items;
}
