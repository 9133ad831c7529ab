use Rattle.std.proofs.Common.{ℕ, ◌+◌, ◌<◌}
use Rattle.ea_travel_times.specs.Speeds.{time_at}
use Rattle.ea_travel_times.proofs.ranges.ascend.Given as goal

abbrev pub invariant-loop-place : goal.invariant-loop-place
invariant-loop-place l = (p : ℕ) → p + 1 < l.place → time_at l.steps p < time_at l.steps (p + 1)
