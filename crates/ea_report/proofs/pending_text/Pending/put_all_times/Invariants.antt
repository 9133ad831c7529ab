use Rattle.std.proofs.Common.{◌<◌, ◌≤◌, length, ◌+◌, ◌-◌, ◌*◌, ◌^◌}
use Rattle.ea_report.specs.Deliverers.{delivery_of}
use Rattle.ea_report.specs.Report.{each_node, node_time}
use Rattle.ea_report.specs.Sent.{Adds}
use Rattle.ea_report.specs.declared.report.TheConstants.{PIECE}
use Rattle.ea_report.proofs.pending_text.Pending.put_all_times.Given as goal

abbrev pub invariant-loop-after : goal.invariant-loop-after
invariant-loop-after g l = record {
  inside : l.after ≤ l.nodes;
  added : Adds (g.W.Device.seen l.fn.out) (delivery_of l.fn.self) (g.W.Device.seen l.out) (delivery_of l.self) (each_node (node_time l.direction l.answer) l.after);
  bound : l.self.written ≤ l.fn.self.written + l.after * 2 ^ 63;
  held : length l.self.text.items < PIECE;
}

abbrev pub decreases-loop-after : goal.decreases-loop-after
decreases-loop-after g l = l.nodes - l.after
