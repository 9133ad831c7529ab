use Rattle.std.proofs.Common.{◌<◌, ◌≤◌, length, ◌+◌, ◌*◌, ◌^◌, take}
use Rattle.std.specs.List.{flat_map}
use Rattle.ea_report.specs.Deliverers.{delivery_of}
use Rattle.ea_report.specs.Report.{asked_line}
use Rattle.ea_report.specs.Sent.{Adds}
use Rattle.ea_report.specs.declared.report.TheConstants.{PIECE}
use Rattle.ea_report.proofs.pending_text.Pending.put_all_asked.Given as goal

abbrev pub invariant-loop-source : goal.invariant-loop-source
invariant-loop-source g l = record {
  added : Adds (g.W.Device.seen l.fn.out) (delivery_of l.fn.self) (g.W.Device.seen l.out) (delivery_of l.self) (flat_map (asked_line l.direction l.target) (take l.source-index l.sources));
  bound : l.self.written ≤ l.fn.self.written + l.source-index * 2 ^ 63;
  held : length l.self.text.items < PIECE;
}
