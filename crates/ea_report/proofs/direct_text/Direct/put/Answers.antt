use Rattle.std.proofs.Common.{arith, refl}
use Rattle.ea_report.proofs.Pieces.{adds_sent, stops_sent}
use Rattle.ea_report.proofs.direct_text.Direct.put.Goals as goal

pub returns-in-Ok : goal.returns-in-Ok
returns-in-Ok g c =
    let old = (g.W.Device.seen c.args.out.now) in
    let now = (g.W.Device.seen c.send.new.out) in
    record {
      ok = rw c.saturating_add-self.ensures (adds_sent old now c.args.bytes.now _ _ _ _ refl c.in-Ok.ensures.ok);
      err = tt;
      device = tt;
      bound = omega arith;
      small = tt;
    }

pub returns-in-Err : goal.returns-in-Err
returns-in-Err g c =
    let old = (g.W.Device.seen c.args.out.now) in
    let now = (g.W.Device.seen c.send.new.out) in
    record {
      ok = tt;
      err = stops_sent old now c.args.bytes.now _ _ c.in-Err.sent _ c.in-Err.ensures.err c.saturating_add.ensures;
      device = refl;
      bound = omega arith;
      small = omega (arith, c.in-Err.ensures.err.cut.0);
    }
