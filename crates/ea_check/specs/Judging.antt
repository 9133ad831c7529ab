-- The verdict on a report whose lines are read as its bytes come.
use Rattle.std.specs.Prelude.{ℕ, List, Result, Ok, Err}
use Rattle.ea_road.specs.declared.source.Source.{Source}
use Rattle.ea_road.specs.Roads.{Roads}
use Rattle.ea_base.specs.declared.direction.Direction.{Direction}
use Rattle.ea_bytes.specs.Device.{Seen}
use Rattle.ea_blocks.specs.Taking.{StopsTaking}
use Rattle.ea_check.specs.declared.fault.CheckFault.{CheckFault}
use Rattle.ea_check.specs.declared.form.report_lines.ReportLines.{ReportLines}
use Rattle.ea_check.specs.declared.form.stop.Stop.{Stop}
use Rattle.ea_check.specs.declared.form.stop.Stop.TheVariants.{Device, Report}
use Rattle.ea_check.specs.Checked.{IsChecked}
use Rattle.ea_check.specs.Form.{Line, report_lines}
use Rattle.ea_check.specs.Streams.{IsWholeText, LeadsTo}

-- The verdict on the text that a device gave, as a report of a run in this direction.
pub record HasVerdict
    (way : Direction)
    (roads : Roads)
    (answers : ℕ → ℕ → ℕ → ℕ → Type 0)
    (queries : List (List Source))
    (old new : Seen)
    (verdict : Result (Unit {0}) CheckFault)
    : Type 0 where
  pub text : List ℕ
  pub whole : IsWholeText old new text
  pub checked : IsChecked roads answers queries (report_lines way text) verdict

-- The lines that were left have this verdict, or the device stopped.
abbrev pub JudgesTo : (List Line → Result (Unit {0}) CheckFault → Type 0) → Seen → ReportLines → Seen → ReportLines → Result (Unit {0}) Stop → Type 0
JudgesTo Has old before new after (Ok _) = LeadsTo (λ lines others. Has lines (Ok tt)) old before new after
JudgesTo Has old before new after (Err (Report fault)) = LeadsTo (λ lines others. Has lines (Err fault)) old before new after
JudgesTo Has old before new after (Err (Device fault)) = StopsTaking old before.blocks new fault

-- How a verdict on a report is found.
abbrev pub judged_as : Result (Unit {0}) CheckFault → Result (Unit {0}) Stop
judged_as (Ok _) = Ok tt
judged_as (Err fault) = Err (Report fault)
