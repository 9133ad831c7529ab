use Rattle.std.proofs.Common.{append-nil, arith, sym}
use Rattle.ea_report.specs.Report.{each_node, node_time, reported_node}
use Rattle.ea_report.proofs.Pieces.{each_node-as, lines_as}
use Rattle.ea_report.proofs.pending_text.Pending.put_each.Goals as goal

-- without walks the text of a node is the line of its time
pub returns-else-style : goal.returns-else-style
returns-else-style g c =
    let times = node_time c.args.style.direction c.args.answer.now in
    let nodes = reported_node c.args.style c.args.answer.now in
    lines_as c.put_all_times.result _ _ _ _ c.args.nodes c.args.nodes (each_node times c.args.nodes) (each_node nodes c.args.nodes) (omega arith)
    (each_node-as times nodes (λ node. rw c.if-style.false (sym (append-nil (times node)))) c.args.nodes) c.put_all_times.ensures
