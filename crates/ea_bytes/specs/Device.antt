-- Devices as contracts see them, and what calls do to them.
use Rattle.std.specs.Prelude.{◌≡◌, ◌⊎◌, ℕ, ◌+◌, ◌-◌, ◌<◌, ◌≤◌, ◌^◌, min, List, length, Option, Result, Ok, Err}
use Rattle.std.specs.Io.KnownBytes.{Consumes}
use Rattle.ea_base.specs.declared.limits.TheConstants.{MOST_INTERRUPTIONS}
use Rattle.ea_bytes.specs.declared.device.DeviceFault.{DeviceFault}
use Rattle.ea_bytes.specs.declared.device.DeviceFault.TheVariants.{Interrupted, Failed}

-- The bytes left of a reader or taken by a writer, if its type says, and the numbers of calls that failed and
-- that were interrupted.
pub record Seen : Type 0 where
  pub bytes : Option (List ℕ)
  pub failed : ℕ
  pub interrupted : ℕ

-- One more, as far as a count of 64 bits reaches.
abbrev pub one_more : ℕ → ℕ
one_more n = min (n + 1) (2 ^ 64 - 1)

-- The failures after a fault: a failure is one more.
abbrev pub failures_by : DeviceFault → ℕ → ℕ
failures_by Interrupted n = n
failures_by Failed n = one_more n

-- The interruptions after a fault: an interruption is one more.
abbrev pub interruptions_by : DeviceFault → ℕ → ℕ
interruptions_by Interrupted n = one_more n
interruptions_by Failed n = n

-- The failures after a call.
abbrev pub failures_after : {X : Type 0} → Result X DeviceFault → ℕ → ℕ
failures_after (Ok x) n = n
failures_after (Err fault) n = failures_by fault n

-- The interruptions after a call.
abbrev pub interruptions_after : {X : Type 0} → Result X DeviceFault → ℕ → ℕ
interruptions_after (Ok x) n = n
interruptions_after (Err fault) n = interruptions_by fault n

-- A device had a reason to give up: a failure, or more interruptions than are tolerated, as far as the counts
-- reach.
abbrev pub HasGivenUp : Seen → Seen → Type 0
HasGivenUp old new =
    (old.failed < new.failed) ⊎ (old.interrupted + MOST_INTERRUPTIONS < new.interrupted)
    ⊎ (new.failed ≡ 2 ^ 64 - 1) ⊎ (new.interrupted ≡ 2 ^ 64 - 1)

-- Exactly that: one failure after tolerated interruptions, or the first interruption beyond.
abbrev pub GivesUp : Seen → Seen → Type 0
GivesUp old new =
    ((new.failed ≡ one_more old.failed) × (new.interrupted ≤ old.interrupted + MOST_INTERRUPTIONS))
    ⊎ ((new.failed ≡ old.failed) × (new.interrupted ≤ old.interrupted + MOST_INTERRUPTIONS + 1)
    × ((old.interrupted + MOST_INTERRUPTIONS < new.interrupted) ⊎ (new.interrupted ≡ 2 ^ 64 - 1)))

-- No call failed, and the interruptions were tolerated.
abbrev pub BearsOn : Seen → Seen → Type 0
BearsOn old new = (new.failed ≡ old.failed) × (new.interrupted ≤ old.interrupted + MOST_INTERRUPTIONS)

-- No fault was counted.
abbrev pub AreAlike : Seen → Seen → Type 0
AreAlike old new = (new.failed ≡ old.failed) × (new.interrupted ≡ old.interrupted)

-- At most this many of a device's bytes were taken, its first ones.
abbrev pub TakesAtMost : ℕ → Seen → Seen → Type 0
TakesAtMost most old new = (taken : List ℕ) × Consumes old.bytes new.bytes taken × (length taken ≤ most)
