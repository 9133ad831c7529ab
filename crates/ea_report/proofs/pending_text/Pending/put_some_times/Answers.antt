use Rattle.std.proofs.Common.{refl}
use Rattle.ea_report.specs.Deliverers.{delivery_of}
use Rattle.ea_report.specs.Times.{times_text}
use Rattle.ea_report.proofs.Pieces.{lines_added, lines_refused}
use Rattle.ea_report.proofs.pending_text.Pending.put_some_times.Goals as goal

pub returns-in-Ok : goal.returns-in-Ok
returns-in-Ok g c =
    lines_added c.flush_large.result _ _ (delivery_of c.args.self.now) _ _ (times_text c.args.answer.now c.args.span) c.in-Ok.ensures c.flush_large.ensures

pub returns-in-Err : goal.returns-in-Err
returns-in-Err g c =
    lines_refused _ (delivery_of c.args.self.now) _ c.fault.result (times_text c.args.answer.now c.args.span) refl c.args.self.now.borne c.fault.ensures
