use Rattle.std.proofs.Common.{arith, ◌≤◌, ◌+◌, length, ap, length-drop}
use Rattle.ea_report.proofs.Pieces.{sent_more, borne_on, borne_more, rest_whole, failed_gives_up, interrupted_gives_up}
use Rattle.std.proofs.KnownBytes.{Appends-kept}
use Rattle.ea_report.proofs.sender.send.Goals as goal

pub loop-sent-preserved-in-Ok : goal.loop-sent-preserved-in-Ok
loop-sent-preserved-in-Ok g c =
    let bound = c.in-Ok.ensures.bound in
    let fits : c.loop-sent.sent + c.in-Ok.count ≤ length c.args.bytes.now = omega (arith, ap length (rest_whole c.args.bytes.now c.loop-sent.sent), length-drop c.loop-sent.sent c.args.bytes.now, bound) in
    record {
      sent = sent_more _ _ _ c.args.bytes.now c.loop-sent.sent c.in-Ok.count c.loop-sent.invariant.sent c.in-Ok.ensures.bytes;
      within = fits;
      borne = c.loop-sent.invariant.borne;
      counted = λ first h.
          let old = g.W.Device.seen c.loop-sent.out in
          let now = g.W.Device.seen c.write.new.self in
          borne_on first old now _ c.in-Ok.ensures.failed c.in-Ok.ensures.interrupted (c.loop-sent.invariant.counted first h);
    }

pub loop-sent-preserved : goal.loop-sent-preserved
loop-sent-preserved g c =
    let said = rw c.in-Err-Interrupted.field-0-is at c.in-Err-Interrupted.ensures in
    record {
      sent = Appends-kept _ _ _ _ c.loop-sent.invariant.sent said.bytes;
      within = c.loop-sent.invariant.within;
      borne = omega arith;
      counted = λ first h.
          let old = g.W.Device.seen c.loop-sent.out in
          let now = g.W.Device.seen c.write.new.self in
          borne_more first old now _ said.failed said.interrupted (c.loop-sent.invariant.counted first h);
    }

pub returns-then-interruptions-eq-MOST_INTERRUPTIONS-clause-err : goal.returns-then-interruptions-eq-MOST_INTERRUPTIONS-clause-err
returns-then-interruptions-eq-MOST_INTERRUPTIONS-clause-err g c =
    let said = rw c.in-Err-Interrupted.field-0-is at c.in-Err-Interrupted.ensures in
    record {
      cut = (c.loop-sent.invariant.within, Appends-kept _ _ _ _ c.loop-sent.invariant.sent said.bytes);
      given_up = λ first h.
          let counted = rw c.if-interruptions-eq-MOST_INTERRUPTIONS.true at (c.loop-sent.invariant.counted first h) in
          let old = g.W.Device.seen c.loop-sent.out in
          let now = g.W.Device.seen c.write.new.self in
          interrupted_gives_up first old now said.failed said.interrupted counted;
    }

pub returns-in-Err-Failed-clause-err : goal.returns-in-Err-Failed-clause-err
returns-in-Err-Failed-clause-err g c =
    let said = rw c.in-Err-Failed.field-0-is at c.in-Err-Failed.ensures in
    record {
      cut = (c.loop-sent.invariant.within, Appends-kept _ _ _ _ c.loop-sent.invariant.sent said.bytes);
      given_up = λ first h.
          let old = g.W.Device.seen c.loop-sent.out in
          let now = g.W.Device.seen c.write.new.self in
          failed_gives_up first old now _ said.failed said.interrupted c.loop-sent.invariant.borne (c.loop-sent.invariant.counted first h);
    }
