use Rattle.std.proofs.Common.{◌≡◌, ◌<◌, ◌≤◌, length, ◌+◌, ◌*◌, ◌^◌}
use Rattle.ea_report.specs.Deliverers.{delivery_of}
use Rattle.ea_report.specs.Report.{each_node, reported_node}
use Rattle.ea_report.specs.Sent.{Adds}
use Rattle.ea_report.specs.declared.report.TheConstants.{PIECE}
use Rattle.ea_report.proofs.pending_text.Pending.put_each_walk.Given as goal

abbrev pub invariant-loop-i : goal.invariant-loop-i
invariant-loop-i g l = record {
  links : l.arcs.links ≡ l.answer.links;
  added : Adds (g.W.Device.seen l.fn.out) (delivery_of l.fn.self) (g.W.Device.seen l.out) (delivery_of l.self) (each_node (reported_node l.style l.answer) l.i);
  bound : l.self.written ≤ l.fn.self.written + l.i * 2 ^ 63;
  held : length l.self.text.items < PIECE;
}
