-- The sums over all workers of a problem.
use Rattle.std.specs.Prelude.{◌≡◌, ◌+◌, ◌^◌, ◌<◌, ◌≤◌, List, sum_by}
use Rattle.ea_engine.specs.declared.worker.counters.Counters.{Counters}
use Rattle.ea_engine.specs.Tallies.{pushed_by_all, popped_by_all, returned_by_all}
use Rattle.earliest.specs.declared.totals.Work.{Work}

-- The sums with one more worker.
abbrev pub work_with : Work → Counters → Work
work_with work counted = record {
  pushed = work.pushed + counted.pushed;
  popped = work.popped + counted.popped;
  stale = work.stale + counted.stale;
  scanned = work.scanned + counted.scanned;
  returned = work.returned + counted.returned;
}

-- One more worker's counts fit.
abbrev pub FitsOneMore : Work → Type 0
FitsOneMore work =
    (work.pushed < 2 ^ 100) × (work.popped < 2 ^ 100) × (work.stale < 2 ^ 100) × (work.scanned < 2 ^ 100)
    × (work.returned < 2 ^ 100)

-- The counts of one worker fit in 64 bits.
abbrev pub AreNarrow : Counters → Type 0
AreNarrow counted =
    (counted.pushed < 2 ^ 64) × (counted.popped < 2 ^ 64) × (counted.stale < 2 ^ 64) × (counted.scanned < 2 ^ 64)
    × (counted.returned < 2 ^ 64)

-- The counts of all workers are small.
abbrev pub IsLittle : Work → Type 0
IsLittle work =
    (work.pushed ≤ 2 ^ 70) × (work.popped ≤ 2 ^ 70) × (work.stale ≤ 2 ^ 70) × (work.scanned ≤ 2 ^ 70)
    × (work.returned ≤ 2 ^ 70)

-- The sums are those over these workers, and small.
pub record IsWorkOf (counters : List Counters) (work : Work) : Type 0 where
  pub pushed : work.pushed ≡ pushed_by_all counters
  pub popped : work.popped ≡ popped_by_all counters
  pub stale : work.stale ≡ sum_by (λ (c : Counters). c.stale) counters
  pub scanned : work.scanned ≡ sum_by (λ (c : Counters). c.scanned) counters
  pub returned : work.returned ≡ returned_by_all counters
  pub few : IsLittle work
