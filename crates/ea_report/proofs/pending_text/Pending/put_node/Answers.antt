use Rattle.std.proofs.Common.{refl}
use Rattle.ea_report.specs.Deliverers.{delivery_of}
use Rattle.ea_report.specs.Report.{reported_node}
use Rattle.ea_report.proofs.Pieces.{lines_added, lines_refused}
use Rattle.ea_report.proofs.pending_text.Pending.put_node.Goals as goal

pub returns-in-Ok-clause-adds : goal.returns-in-Ok-clause-adds
returns-in-Ok-clause-adds g c =
    lines_added c.flush_large.result _ _ (delivery_of c.args.self.now) _ _ (reported_node c.args.style c.args.answer.now c.args.node) c.in-Ok.ensures.text c.flush_large.ensures

pub returns-in-Err-clause-adds : goal.returns-in-Err-clause-adds
returns-in-Err-clause-adds g c =
    lines_refused _ (delivery_of c.args.self.now) _ c.fault.result (reported_node c.args.style c.args.answer.now c.args.node) refl c.args.self.now.borne c.fault.ensures
