use Rattle.std.proofs.Common.{◌≡◌, ◌+◌, if◌then◌else◌}
use Rattle.ea_check.specs.Streams.{GetsMore}
use Rattle.ea_check.proofs.form.report_lines.ReportLines.take_line.Given as goal

abbrev pub invariant-pulls : goal.invariant-pulls
invariant-pulls g l = record {
  gets : GetsMore (g.R.Device.seen l.fn.device) l.fn.self (g.R.Device.seen l.device) l.self;
  count : l.self.count ≡ l.fn.self.count;
  way : l.self.way ≡ l.fn.self.way;
}

abbrev pub decreases-pulls : goal.decreases-pulls
decreases-pulls g l = l.self.blocks.left + (if l.self.ended then 0 else 1)
