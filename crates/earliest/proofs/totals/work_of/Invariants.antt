use Rattle.std.proofs.Common.{◌≡◌, ◌*◌, ◌^◌, ◌≤◌, ℕ, List, take}
use Rattle.std.specs.Prelude.{sum_by}
use Rattle.ea_engine.specs.declared.worker.counters.Counters.{Counters}
use Rattle.earliest.proofs.totals.work_of.Given as goal

-- Sums so far.
pub record AreSums (counters : List Counters) (i pushed popped stale scanned returned : ℕ) : Type 0 where
  pub pushed_is : pushed ≡ sum_by (λ (c : Counters). c.pushed) (take i counters)
  pub popped_is : popped ≡ sum_by (λ (c : Counters). c.popped) (take i counters)
  pub stale_is : stale ≡ sum_by (λ (c : Counters). c.stale) (take i counters)
  pub scanned_is : scanned ≡ sum_by (λ (c : Counters). c.scanned) (take i counters)
  pub returned_is : returned ≡ sum_by (λ (c : Counters). c.returned) (take i counters)
  pub few_pushed : pushed ≤ i * 2 ^ 64
  pub few_popped : popped ≤ i * 2 ^ 64
  pub few_stale : stale ≤ i * 2 ^ 64
  pub few_scanned : scanned ≤ i * 2 ^ 64
  pub few_returned : returned ≤ i * 2 ^ 64

abbrev pub invariant-loop-counted : goal.invariant-loop-counted
invariant-loop-counted l = AreSums l.counters l.counted-index l.work.pushed l.work.popped l.work.stale l.work.scanned l.work.returned
