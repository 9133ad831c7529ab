use Rattle.std.proofs.Common.{ℕ, ◌<◌, ◌≤◌}
use Rattle.ea_travel_times.specs.Speeds.{time_at, value_at}
use Rattle.ea_travel_times.proofs.ranges.stay_below.Given as goal

abbrev pub invariant-loop-place : goal.invariant-loop-place
invariant-loop-place l = (p : ℕ) → p < l.place → (time_at l.steps p ≤ l.time) × (value_at l.steps p ≤ l.value)
