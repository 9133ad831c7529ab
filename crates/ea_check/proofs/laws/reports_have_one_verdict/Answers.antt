use Rattle.std.proofs.Common.{arith}
use Rattle.ea_base.specs.declared.direction.Direction.TheVariants.{Forward}
use Rattle.ea_bytes.specs.Text.{field_lines}
use Rattle.ea_check.specs.Checked.{sources_of}
use Rattle.ea_check.specs.Form.{lines_of_report}
use Rattle.ea_check.proofs.Composing.{spoken_in_order}
use Rattle.ea_check.proofs.Whole.{one_checked, tasks_of}
use Rattle.ea_check.proofs.laws.reports_have_one_verdict.Goals as goal

pub returns : goal.returns
returns g c = λ report.
    one_checked c.args.network.now (g.T.TravelTimes.answers c.args.times.now) (g.T.TravelTimes.classes c.args.times.now) (g.met.T.TravelTimes.fifo c.args.times.now) (sources_of c.args.queries.now) (lines_of_report report)
    (tasks_of c.args.network.now (g.T.TravelTimes.classes c.args.times.now) c.args.queries.now c.keeps_limits.ensures c.requires)
    (spoken_in_order Forward 1 0 (field_lines report) (omega arith))
