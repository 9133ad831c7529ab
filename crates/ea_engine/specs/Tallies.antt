-- The counts of a run.
use Rattle.std.specs.Prelude.{◌≡◌, ℕ, ◌+◌, ◌-◌, ◌<◌, ◌≤◌, List, length, sum_by}
use Rattle.ea_engine.specs.declared.worker.counters.Counters.{Counters}

abbrev pub pushed_by_all : List Counters → ℕ
pushed_by_all counters = sum_by (λ c. c.pushed) counters

abbrev pub popped_by_all : List Counters → ℕ
popped_by_all counters = sum_by (λ c. c.popped) counters

abbrev pub returned_by_all : List Counters → ℕ
returned_by_all counters = sum_by (λ c. c.returned) counters

abbrev pub busy_by_all : List Counters → ℕ
busy_by_all counters = sum_by (λ c. c.busy) counters

abbrev pub empty_by_all : List Counters → ℕ
empty_by_all counters = sum_by (λ c. c.empty) counters

-- Of the sources' entries the pool took `seeded`. What it took was popped or drained. When the finishing pass
-- starts, `finish` nodes are open: at most as many as entries were drained and handed back, and at least one
-- if any was. What the workers don't account for of what was handed back are seeds, at least one if there are
-- sources.
pub record IsTally (sources seeded returned drained finish : ℕ) (counters : List Counters) : Type 0 where
  pub balance : seeded + pushed_by_all counters ≡ popped_by_all counters + drained
  pub few_open : finish ≤ drained + returned
  pub some_open : 0 < drained + returned → 0 < finish
  pub hands : returned_by_all counters ≤ returned
  pub seeds : seeded + (returned - returned_by_all counters) ≤ sources
  pub begun : 0 < sources → 0 < seeded + (returned - returned_by_all counters)

-- What a run of one worker shows, for a size of batches and a number of heaps.
pub record IsLoneTally (batch heaps drained : ℕ) (counters : List Counters) : Type 0 where
  -- one worker is never busy
  pub never_busy : length counters ≡ 1 → busy_by_all counters ≡ 0
  -- With batches of one entry, it finds two heaps empty only if nothing is left to drain.
  pub empty_at_end : batch ≡ 1 → length counters ≡ 1 → heaps ≡ 2 → 0 < empty_by_all counters → drained ≡ 0
