-- Why reading a report stopped.
use Rattle.std.specs.Prelude.{ℕ, List, MatchResult, OnOk, Result}
use Rattle.ea_bytes.specs.Device.{Seen}
use Rattle.ea_blocks.specs.Taking.{StopsTaking}
use Rattle.ea_check.specs.declared.form.report_lines.ReportLines.{ReportLines}
use Rattle.ea_check.specs.declared.form.stop.Stop.{Stop}
use Rattle.ea_check.specs.declared.form.stop.Stop.TheVariants.{Device, Report}
use Rattle.ea_check.specs.Form.{Line}
use Rattle.ea_check.specs.Reads.{IsWrong}
use Rattle.ea_check.specs.Streams.{IsSound, LeadsTo}

-- The device stopped, or the lines are wrong, given what makes a line of them bad.
abbrev pub IsStop : (List Line → ℕ → Type 0) → Seen → ReportLines → Seen → ReportLines → Stop → Type 0
IsStop IsBad old before new after (Report fault) = LeadsTo (λ lines others. IsWrong (IsBad lines) fault) old before new after
IsStop IsBad old before new after (Device fault) = StopsTaking old before.blocks new fault

-- Lines were read, and the next one is found; or reading stopped.
pub record ReadsOrStops
    {T : Type 0}
    (Reads : T → Type 0)
    (IsBad : List Line → ℕ → Type 0)
    (old : Seen)
    (before : ReportLines)
    (new : Seen)
    (after : ReportLines)
    (result : Result T Stop)
    : Type 0 where
  pub sound : OnOk result (IsSound after)
  pub read : MatchResult result Reads (IsStop IsBad old before new after)
