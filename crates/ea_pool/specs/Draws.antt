-- The heaps that calls inspect, given the number of heaps and random words.
use Rattle.std.specs.Prelude.{◌≡◌, ℕ, ◌+◌, ◌-◌, ◌%◌, ◌<◌}

-- The two heaps of a pop.
abbrev pub first_draw : ℕ → ℕ → ℕ
first_draw heaps first = first % heaps

abbrev pub second_draw : ℕ → ℕ → ℕ → ℕ
second_draw heaps first second = (first_draw heaps first + 1 + second % (heaps - 1)) % heaps

-- The heap of a push's attempt, from 0.
abbrev pub try_draw : ℕ → ℕ → ℕ → ℕ
try_draw heaps word attempt = (first_draw heaps word + attempt) % heaps

-- The drawn heap is one of this many.
pub record IsDraw (heaps draw heap : ℕ) : Type 0 where
  pub is : heap ≡ draw
  pub near : heap < heaps
