-- Random words that mostly draw a worker's own heaps.
use Rattle.std.specs.Prelude.{◌≡◌, ℕ, ◌+◌, ◌-◌, ◌*◌, ◌%◌, ◌^◌, ◌<◌, ◌≤◌, ◌==◌, nat_lt, List, slice_index, if◌then◌else◌}
use Rattle.ea_base.specs.declared.limits.TheConstants.{LEAST_HEAPS, MOST_HEAPS, MOST_WORKERS}
use Rattle.ea_engine.specs.declared.worker.home_heaps.Homing.{Homing}

-- The next of the worker's words; if the word of the generator below is below 2^61, plus its last 28 bits
-- times the number of heaps.
unfoldable pub homing_step : {R : Type 0} → (R → ℕ × R) → Homing R → ℕ × Homing R
homing_step step h =
    let drawn = step h.below in
    let own = slice_index h.words (h.place % 8) in
    (if nat_lt drawn.0 (2 ^ 61) then own + h.heaps * (drawn.0 % 2 ^ 28) else own, record { below = drawn.1; words = h.words; heaps = h.heaps; place = if nat_lt h.place 7 then h.place + 1 else 0 })

-- Of this many heaps, the word draws one as a push's word or the first of a pop; as the second of a pop, it
-- draws the heap a step and one behind the first.
pub record IsWordAt (heaps step heap word : ℕ) : Type 0 where
  pub draws : word % heaps ≡ heap
  pub leads : word % (heaps - 1) ≡ step

-- Words that draw a worker's own heaps in turn: as a push's word or the first of a pop, each draws the next
-- own heap; as the second of a pop, it leads there from the one before.
abbrev pub AreOwn : ℕ → ℕ → ℕ → List ℕ → Type 0
AreOwn worker workers heaps words =
    (k : ℕ) → k < 8 → IsWordAt (workers * heaps) (if k % heaps == 0 then workers * heaps - heaps else 0) (worker * heaps + k % heaps) (slice_index words k)

-- A worker by its number, from 0, and the heaps for each worker, within the limits.
pub record IsHome (worker workers heaps : ℕ) : Type 0 where
  pub is_worker : worker < workers
  pub workers_few : workers ≤ MOST_WORKERS
  pub two_heaps : LEAST_HEAPS ≤ heaps
  pub heaps_few : heaps ≤ MOST_HEAPS

-- A worker's words over a generator, before the first draw.
pub record IsAtHome {R : Type 0} (below : R) (worker workers heaps : ℕ) (homing : Homing R) : Type 0 where
  pub below_is : homing.below ≡ below
  pub first : homing.place ≡ 0
  pub all_heaps : homing.heaps ≡ workers * heaps
  pub own : AreOwn worker workers heaps homing.words
