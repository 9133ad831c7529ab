-- The place that halving finds.
use Rattle.std.specs.Prelude.{ℕ, ◌-◌, ◌<◌, ◌≤◌}

-- The place, of this many, before which the last value is below a bound and at which the value is not.
pub record IsPartitionPoint (value_at : ℕ → ℕ) (count bound place : ℕ) : Type 0 where
  pub inside : place ≤ count
  pub before : 0 < place → value_at (place - 1) < bound
  pub after : place < count → bound ≤ value_at place
