use Rattle.std.proofs.Common.{refl}
use Rattle.ea_report.specs.Deliverers.{delivery_of}
use Rattle.ea_report.specs.Report.{asked_line}
use Rattle.ea_report.proofs.Pieces.{lines_added, lines_refused}
use Rattle.ea_report.proofs.pending_text.Pending.put_asked.Goals as goal

pub returns-in-Ok : goal.returns-in-Ok
returns-in-Ok g c =
    lines_added c.flush_large.result _ _ (delivery_of c.args.self.now) _ _ (asked_line c.args.direction c.args.target c.args.source) c.in-Ok.ensures c.flush_large.ensures

pub returns-in-Err : goal.returns-in-Err
returns-in-Err g c =
    lines_refused _ (delivery_of c.args.self.now) _ c.fault.result (asked_line c.args.direction c.args.target c.args.source) refl c.args.self.now.borne c.fault.ensures
