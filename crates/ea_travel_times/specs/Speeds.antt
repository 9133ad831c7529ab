-- Travel times by speeds, the model of Ichoua, Gendreau and Potvin (European Journal of Operational Research 144, 2003) in
-- whole numbers: a step has a time and, from it to the next step, a speed in thousandths of the full one.
use Rattle.std.specs.Prelude.{◌≡◌, ℕ, zero, suc, ◌+◌, ◌-◌, ◌*◌, ◌%◌, ◌^◌, ◌<◌, ◌≤◌, List, [], ◌∷◌, length, min, nat_le, nat_lt, slice_index, slice_index_or, if◌then◌else◌}
use Rattle.ea_base.specs.declared.limits.TheConstants.{HORIZON}

-- The arrival of what does not arrive within the horizon.
abbrev pub never : ℕ
never = HORIZON + 1

-- The time and the value of the step at a place.
abbrev pub time_at : List (ℕ × ℕ) → ℕ → ℕ
time_at steps place = (slice_index_or steps place (0, 0)).0

abbrev pub value_at : List (ℕ × ℕ) → ℕ → ℕ
value_at steps place = (slice_index_or steps place (0, 0)).1

-- The value of the last step that is not after a time, and the value given if there is none.
abbrev pub last_value : ℕ → List (ℕ × ℕ) → ℕ → ℕ
last_value value [] time = value
last_value value (step ∷ steps) time = last_value (if nat_le step.0 time then step.1 else value) steps time

-- The speed of a time, if the steps are those of one period.
abbrev pub speed_at : List (ℕ × ℕ) → ℕ → ℕ → ℕ
speed_at steps period time = last_value 0 steps (time % period)

-- The sum of the speeds of this many times from one on.
abbrev pub speed_sum : (ℕ → ℕ) → ℕ → ℕ → ℕ
speed_sum speed from zero = 0
speed_sum speed from (suc count) = speed_sum speed from count + speed (from + count)

-- The arrival by the speeds of the times: the least time at or after the departure such that the speeds of the times from the
-- departure on before it sum to a thousand times the weight, but never after `never`.
pub record IsArrivalBySpeeds (speed : ℕ → ℕ) (weight departure arrival : ℕ) : Type 0 where
  pub not_before : departure ≤ arrival
  pub capped : arrival ≤ never
  pub passed : arrival < never → 1000 * weight ≤ speed_sum speed departure (arrival - departure)
  pub least : (other : ℕ) → departure ≤ other → 1000 * weight ≤ speed_sum speed departure (other - departure) → arrival ≤ other

-- The steps of one period: from time 0 on they ascend and stay below the period, and some speed is above 0.
pub record AreSpeeds (period : ℕ) (steps : List (ℕ × ℕ)) : Type 0 where
  pub period_from : 0 < period
  pub period_to : period ≤ 2 ^ 32
  pub some : 0 < length steps
  pub from_zero : time_at steps 0 ≡ 0
  pub ascend : (place : ℕ) → place + 1 < length steps → time_at steps place < time_at steps (place + 1)
  pub within : (place : ℕ) → place < length steps → time_at steps place < period
  pub to_full : (place : ℕ) → place < length steps → value_at steps place ≤ 1000000
  pub moves : ((place : ℕ) → place < length steps → value_at steps place ≡ 0) → ⊥

-- From the step at a place on to this time the speed stays: to the next step's time, or to the period's end.
abbrev pub end_at : ℕ → List (ℕ × ℕ) → ℕ → ℕ
end_at period steps place = if nat_lt (place + 1) (length steps) then time_at steps (place + 1) else period

-- The sum of the speeds of one period's times before a time.
abbrev pub sum_to : List (ℕ × ℕ) → ℕ → ℕ
sum_to steps time = speed_sum (last_value 0 steps) 0 time

-- The first time of a period at which the sum of the speeds before it is as large as this.
pub record IsTimeOfSum (steps : List (ℕ × ℕ)) (sum time : ℕ) : Type 0 where
  pub from_one : 0 < time
  pub passed : sum ≤ sum_to steps time
  pub not_sooner : sum_to steps (time - 1) < sum

-- That time, in the period or at its end.
pub record IsTimeOfSumIn (period : ℕ) (steps : List (ℕ × ℕ)) (sum time : ℕ) : Type 0 where
  pub is : IsTimeOfSum steps sum time
  pub within : time ≤ period

-- When the sum of the speeds from the beginning of a period on is first so large, but never after `never`: after some whole
-- periods, at a time of one more.
pub record IsTimeOfSums (period : ℕ) (steps : List (ℕ × ℕ)) (begin sum arrival : ℕ) : Type 0 where
  pub turns : ℕ
  pub time : ℕ
  pub fits : turns * sum_to steps period ≤ sum
  pub in_period : IsTimeOfSum steps (sum - turns * sum_to steps period) time
  pub within : time ≤ period
  pub arrives : arrival ≡ min (begin + turns * period + time) never

-- There are steps, and the first is at time 0.
pub record BeginsAtZero (steps : List (ℕ × ℕ)) : Type 0 where
  pub some : 0 < length steps
  pub from_zero : time_at steps 0 ≡ 0

-- A time lies in the step at a place.
pub record IsInStep (steps : List (ℕ × ℕ)) (time place : ℕ) : Type 0 where
  pub found : place < length steps
  pub not_before : time_at steps place ≤ time
  pub not_after : place + 1 < length steps → time < time_at steps (place + 1)

-- Sums beside steps: beside each step the sum of the speeds before its time.
pub record AreRunSums (steps : List (ℕ × ℕ)) (sums : List ℕ) : Type 0 where
  pub count : length sums ≡ length steps
  pub each : (place : ℕ) → place < length steps → slice_index sums place ≡ sum_to steps (time_at steps place)

-- The sum beside a step, by the step before it and the sum beside that one: it begins anew at time 0.
pub record IsNextSum (sum : ℕ) (before step : ℕ × ℕ) (next : ℕ) : Type 0 where
  pub anew : step.0 ≡ 0 → next ≡ 0
  pub on : 0 < step.0 → sum + before.1 * (step.0 - before.0) < 2 ^ 64 → next ≡ sum + before.1 * (step.0 - before.0)

-- Sums beside the first steps of several classes: they begin anew at each step at time 0, and otherwise add what the step before
-- moves up to this step's time, if that is below 2^64.
pub record AreFirstSums (steps : List (ℕ × ℕ)) (sums : List ℕ) : Type 0 where
  pub anew : (place : ℕ) → place < length sums → time_at steps place ≡ 0 → slice_index sums place ≡ 0
  pub on : (place : ℕ) → place + 1 < length sums → 0 < time_at steps (place + 1)
      → slice_index sums place + value_at steps place * (time_at steps (place + 1) - time_at steps place) < 2 ^ 64
      → slice_index sums (place + 1) ≡ slice_index sums place + value_at steps place * (time_at steps (place + 1) - time_at steps place)

-- Such a sum beside each step.
pub record AreSums (steps : List (ℕ × ℕ)) (sums : List ℕ) : Type 0 where
  pub count : length sums ≡ length steps
  pub first : AreFirstSums steps sums

-- The steps of one period, and their sums.
pub record AreSummedSpeeds (period : ℕ) (steps : List (ℕ × ℕ)) (sums : List ℕ) : Type 0 where
  pub speeds : AreSpeeds period steps
  pub sums_are : AreRunSums steps sums

-- A time lies in the step at a place, or ends it.
pub record IsInStepOrEnd (period : ℕ) (steps : List (ℕ × ℕ)) (time place : ℕ) : Type 0 where
  pub found : place < length steps
  pub not_before : time_at steps place ≤ time
  pub not_after : time ≤ end_at period steps place

-- The sum of one period's speeds before a time, and a bound of it.
pub record IsSumTo (steps : List (ℕ × ℕ)) (time sum : ℕ) : Type 0 where
  pub is : sum ≡ sum_to steps time
  pub small : sum ≤ 1000000 * time

-- A period begins at a time, which is within the horizon.
pub record IsPeriodBegin (period begin : ℕ) : Type 0 where
  pub begins : begin % period ≡ 0
  pub within : begin ≤ HORIZON

-- A speed above 0, in range.
pub record IsSpeed (speed : ℕ) : Type 0 where
  pub moves : 0 < speed
  pub to_full : speed ≤ 1000000

-- A sum above 0 that the speeds of a period reach.
pub record IsReachedSum (period : ℕ) (steps : List (ℕ × ℕ)) (sum : ℕ) : Type 0 where
  pub from_one : 0 < sum
  pub to_whole : sum ≤ sum_to steps period
