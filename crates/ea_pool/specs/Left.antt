-- The entries left in a closed pool, heap by heap.
use Rattle.std.specs.Prelude.{◌≡◌, ℕ, ◌<◌, ◌≤◌, List, [], length, Option, Some, None, MatchOption, if◌then◌else◌, nat_lt, take}
use Rattle.std.specs.List.{AllByRecursion}
use Rattle.ea_pool.specs.declared.heap.entry.Entry.{Entry}
use Rattle.ea_pool.specs.Entries.{gathered, least_key}
use Rattle.ea_pool.specs.Solos.{content}

-- The better of the best heap so far, with its least key, and one more: the one with the smaller key, at a
-- tie the first.
abbrev pub better : Option (ℕ × ℕ) → ℕ → Option ℕ → Option (ℕ × ℕ)
better best place None = best
better None place (Some key) = Some (place, key)
better (Some best) place (Some key) = if nat_lt key best.1 then Some (place, key) else Some best

-- No heap with these contents has an entry, or this one has the least key of all.
abbrev pub IsBestIn : List (List Entry) → List Entry → Option (ℕ × ℕ) → Type 0
IsBestIn heaps es best = MatchOption best (es ≡ []) (λ b. (b.0 < length heaps) × (least_key (content heaps b.0) ≡ Some b.1) × AllByRecursion (λ e. b.1 ≤ e.key) es)

-- The same for the first n heaps.
abbrev pub IsBestOf : List (List Entry) → ℕ → Option (ℕ × ℕ) → Type 0
IsBestOf heaps n best = IsBestIn heaps (gathered (take n heaps)) best
