use Rattle.std.proofs.Common.{◌≡◌}
use Rattle.ea_check.specs.Streams.{IsReady, Leads, behind, size_left}
use Rattle.ea_check.proofs.form.report_lines.ReportLines.find.Given as goal

-- The lines so far say nothing.
abbrev pub invariant-lines : goal.invariant-lines
invariant-lines g l = record {
  ready : IsReady l.self;
  leads : Leads (λ text next. behind l.fn.self text ≡ behind l.self next) (g.R.Device.seen l.fn.device) l.fn.self (g.R.Device.seen l.device) l.self;
}

abbrev pub decreases-lines : goal.decreases-lines
decreases-lines g l = size_left l.self
