use Rattle.std.proofs.Common.{arith, ◌≡◌, length}
use Rattle.ea_report.specs.Deliverers.{delivery_of}
use Rattle.ea_report.specs.Sent.{SendsWhole, SendsFront}
use Rattle.ea_report.proofs.Pieces.{delivery_sent, delivery_cut}
use Rattle.ea_report.proofs.pending_text.Pending.flush.Goals as goal

pub returns-in-Ok-clause-sends : goal.returns-in-Ok-clause-sends
returns-in-Ok-clause-sends g c =
    let pending = c.args.self.now.text.items in
    let sent : SendsWhole (g.W.Device.seen c.args.out.now) (g.W.Device.seen c.send.new.out) pending c.args.self.now.interruptions c.send.new.interruptions = rw c.deref.ensures.value at c.in-Ok.ensures.ok in
    let len : c.len.result ≡ length pending = omega (arith, c.args.self.now.text.ok.0) in
    let old = (g.W.Device.seen c.args.out.now) in
    let now = (g.W.Device.seen c.send.new.out) in record {
      ok = λ first text way. rw (c.clear.ensures.items, c.saturating_add-self.ensures, len) (delivery_sent first old now (delivery_of c.args.self.now) _ text sent way);
      err = tt;
      bound = omega arith;
      small = tt;
      held = rw c.clear.ensures.items (omega arith);
    }

pub returns-in-Err-clause-sends : goal.returns-in-Err-clause-sends
returns-in-Err-clause-sends g c =
    let pending = c.args.self.now.text.items in
    let sent : SendsFront (g.W.Device.seen c.args.out.now) (g.W.Device.seen c.send.new.out) pending c.args.self.now.interruptions c.in-Err.sent = rw c.deref.ensures.value at c.in-Err.ensures.err in
    let old = (g.W.Device.seen c.args.out.now) in
    let now = (g.W.Device.seen c.send.new.out) in record {
      ok = tt;
      err = λ exact first text way. delivery_cut first old now (delivery_of c.args.self.now) text c.in-Err.sent _ sent (c.saturating_add.ensures) exact way;
      bound = omega arith;
      small = omega (arith, sent.cut.0, c.args.self.now.text.ok.0, c.saturating_add.ensures);
      held = tt;
    }
