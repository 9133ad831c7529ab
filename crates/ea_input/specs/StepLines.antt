-- Lines `v T X`: the steps of a class of speeds or of trips, one after the other.
use Rattle.std.specs.Prelude.{◌≡◌, ℕ, ◌+◌, ◌-◌, ◌&&◌, ◌==◌, Bool, false, List, [], ◌∷◌, ◌++◌, length, min, codes, nat_lt, slice_index_or, if◌then◌else◌, Result, Ok, Err}
use Rattle.std.specs.List.{list_all}
use Rattle.ea_base.specs.declared.limits.TheConstants.{HORIZON, MOST_PERIOD, MOST_SPEED}
use Rattle.ea_blocks.specs.Fault.{◌>>=◌, numeral, within}
use Rattle.ea_input.specs.Range.{IsNumberIn}
use Rattle.ea_blocks.specs.declared.fault.FaultKind.{FaultKind}
use Rattle.ea_blocks.specs.declared.fault.FaultKind.TheVariants.{FieldCount}
use Rattle.ea_input.specs.declared.step_lines.StepClass.{StepClass}

-- A class whose steps are read line by line, and those that were read so far: each a time and a value.
pub record Run : Type 0 where
  pub class : StepClass
  pub steps : List (ℕ × ℕ)

-- No class that has steps.
abbrev pub no_run : Run
no_run = record { class = record { trips = false; period = 0; count = 0 }; steps = [] }

-- How many steps of the class weren't told yet.
abbrev pub due : Run → ℕ
due run = run.class.count - length run.steps

abbrev pub with_step : Run → ℕ × ℕ → Run
with_step run step = record run { steps = run.steps ++ step ∷ [] }

-- ---- the ranges of the next step

abbrev pub has_steps : Run → Bool
has_steps run = nat_lt 0 (length run.steps)

-- The next step is the class's last.
abbrev pub is_last : Run → Bool
is_last run = length run.steps + 1 == run.class.count

abbrev pub first_step : Run → ℕ × ℕ
first_step run = slice_index_or run.steps 0 (0, 0)

abbrev pub step_before : Run → ℕ × ℕ
step_before run = slice_index_or run.steps (length run.steps - 1) (0, 0)

-- When the trip of a step arrives that takes nothing beside its value.
abbrev pub arrives : ℕ × ℕ → ℕ
arrives step = step.0 + step.1

-- All speeds so far are 0.
abbrev pub stands_still : Run → Bool
stands_still run = list_all (λ step. step.1 == 0) run.steps

-- The first times of a class are from 0 on, each later one is after the one before it.
unfoldable pub least_time : Run → ℕ
least_time run = if has_steps run then (step_before run).0 + 1 else 0

-- The first speed is that of time 0; other times are below the period. Trips with no period leave within the horizon.
unfoldable pub most_time : Run → ℕ
most_time run =
    if run.class.trips then (if run.class.period == 0 then HORIZON else min (run.class.period - 1) HORIZON)
    else (if has_steps run then min (run.class.period - 1) HORIZON else 0)

-- The last speed is above 0 if all before it are 0; no trip arrives before the one before it.
unfoldable pub least_value : Run → ℕ → ℕ
least_value run time =
    if run.class.trips then arrives (step_before run) - time
    else (if is_last run && stands_still run then 1 else 0)

-- The last trip of a period arrives at most a period after the first.
unfoldable pub most_value : Run → ℕ → ℕ
most_value run time =
    if run.class.trips then
    (if is_last run && has_steps run && nat_lt 0 run.class.period then min (run.class.period + arrives (first_step run) - time) MOST_PERIOD else MOST_PERIOD)
    else MOST_SPEED

-- A line `v T X` that gives the next step.
abbrev pub IsStepLine : Run → List (List ℕ) → ℕ × ℕ → Type 0
IsStepLine run (word ∷ t ∷ x ∷ []) step =
    (word ≡ codes "v") × IsNumberIn (least_time run) (most_time run) t step.0 × IsNumberIn (least_value run step.0) (most_value run step.0) x step.1
IsStepLine run _ step = ⊥

-- HOW A READER GOES, STEP BY STEP

unfoldable pub step_within : Run → ℕ → ℕ → Result (ℕ × ℕ) FaultKind
step_within run t x = do
  time ← within (least_time run) (most_time run) t
  value ← within (least_value run time) (most_value run time) x
  Ok (time, value)

unfoldable pub step_read : Run → List ℕ → List ℕ → Result (ℕ × ℕ) FaultKind
step_read run t x = do
  time ← numeral t
  value ← numeral x
  step_within run time value

-- The fields behind `v`.
unfoldable pub step_of : Run → List (List ℕ) → Result (ℕ × ℕ) FaultKind
step_of run (t ∷ x ∷ []) = step_read run t x
step_of run _ = Err FieldCount
