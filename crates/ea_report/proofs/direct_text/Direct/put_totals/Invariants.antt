use Rattle.std.proofs.Common.{◌≤◌, ◌+◌, ◌*◌, ◌^◌, take}
use Rattle.std.specs.List.{flat_map}
use Rattle.ea_report.specs.Deliverers.{direct_delivery}
use Rattle.ea_report.specs.Stats.{total_line}
use Rattle.ea_report.specs.Sent.{Adds}
use Rattle.ea_report.proofs.direct_text.Direct.put_totals.Given as goal

abbrev pub invariant-loop-row : goal.invariant-loop-row
invariant-loop-row g l = record {
  added : Adds (g.W.Device.seen l.fn.out) (direct_delivery l.fn.self) (g.W.Device.seen l.out) (direct_delivery l.self) (flat_map (λ row. total_line (row.0.now, row.1)) (take l.row-index l.rows));
  bound : l.self.written ≤ l.fn.self.written + l.row-index * (6 * 2 ^ 64);
}
