use Rattle.std.proofs.Common.{◌+◌, if◌then◌else◌}
use Rattle.ea_check.specs.Streams.{Leads}
use Rattle.ea_check.proofs.form.report_lines.ReportLines.skip_rest.Given as goal

abbrev pub invariant-loop-self : goal.invariant-loop-self
invariant-loop-self g l = Leads (λ text next. Unit {0}) (g.R.Device.seen l.fn.device) l.fn.self (g.R.Device.seen l.device) l.self

abbrev pub decreases-loop-self : goal.decreases-loop-self
decreases-loop-self g l = l.self.blocks.left + (if l.self.ended then 0 else 1)
