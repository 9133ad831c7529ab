use Rattle.std.proofs.Common.{◌≡◌, ◌∙◌, ◌+◌, ◌-◌, suc, arith, sym}
use Rattle.ea_report.specs.Report.{node_time}
use Rattle.ea_report.proofs.Pieces.{some_nodes-first}
use Rattle.ea_report.proofs.time_lines.put_times.Goals as goal

pub loop-done-preserved : goal.loop-done-preserved
loop-done-preserved c =
    let done = c.loop-done.done in
    let count = c.args.span.count in
    let text = node_time c.args.span.direction c.args.answer.now in
    let after = c.args.span.after + (count - (done + 1)) in
    let node : suc after ≡ c.args.span.after + (count - done) = omega (arith, c.loop-done-test.true) in
    let inv = c.loop-done.invariant in
    record {
      inside = omega (arith, c.put_time-at.ensures.below, inv.inside);
      room = omega (arith, c.put_time-at.ensures.low, inv.room);
      written = rw (c.arrival.ensures, inv.written) at c.put_time-at.ensures.written ∙ sym (some_nodes-first text after _ done node);
    }
