use Rattle.std.proofs.Common.{arith, refl, []}
use Rattle.ea_report.specs.Delivery.{all_sent}
use Rattle.ea_report.specs.Deliverers.{direct_delivery}
use Rattle.ea_report.proofs.Pieces.{delivery_starts, delivery_ends}
use Rattle.ea_report.proofs.text_pieces.write_pieces.Goals as goal

pub returns-in-Ok-clause-ok : goal.returns-in-Ok-clause-ok
returns-in-Ok-clause-ok g c =
    let first = (g.W.Device.seen c.args.out.now) in
    let now = (g.W.Device.seen c.put_pieces.new.out) in
    let start = delivery_starts first (all_sent 0 0) refl in
    delivery_ends first now (direct_delivery c.put_pieces.new.self) _ refl c.put_pieces.new.self.borne (omega (arith, c.in-Ok.ensures.bound)) (c.in-Ok.ensures.ok first [] start)

pub returns-in-Err-clause-err : goal.returns-in-Err-clause-err
returns-in-Err-clause-err g c =
    let first = (g.W.Device.seen c.args.out.now) in
    c.in-Err.ensures.err (omega (arith, c.in-Err.ensures.small)) first [] (delivery_starts first (all_sent 0 0) refl)
