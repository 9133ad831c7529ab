use Rattle.std.proofs.Common.{◌≡◌, ◌<◌, ◌≤◌, length, ◌+◌, ◌*◌, ◌^◌, take}
use Rattle.std.specs.List.{flat_map}
use Rattle.ea_report.specs.Deliverers.{delivery_of}
use Rattle.ea_report.specs.Report.{reported_node}
use Rattle.ea_report.specs.Sent.{Adds}
use Rattle.ea_report.specs.declared.report.TheConstants.{PIECE}
use Rattle.ea_report.proofs.pending_text.Pending.put_chosen.Given as goal

abbrev pub invariant-loop-node : goal.invariant-loop-node
invariant-loop-node g l = record {
  links : l.arcs.links ≡ l.answer.links;
  added : Adds (g.W.Device.seen l.fn.out) (delivery_of l.fn.self) (g.W.Device.seen l.out) (delivery_of l.self) (flat_map (reported_node l.style l.answer) (take l.node-index l.chosen));
  bound : l.self.written ≤ l.fn.self.written + l.node-index * 2 ^ 63;
  held : length l.self.text.items < PIECE;
}
