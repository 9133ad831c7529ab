use Rattle.std.proofs.Common.{ℕ, ◌<◌, ◌≤◌, length}
use Rattle.ea_travel_times.specs.Speeds.{value_at}
use Rattle.ea_travel_times.proofs.least_times.greatest_value.Given as goal

abbrev pub invariant-loop-place : goal.invariant-loop-place
invariant-loop-place l = record {
  inside : l.greatest < length l.steps;
  greatest : (p : ℕ) → p < l.place → value_at l.steps p ≤ value_at l.steps l.greatest;
}
