use Rattle.std.proofs.Common.{◌≡◌, ◌≤◌, ℕ, ◌<◌, false, get_or, take, vec_len, vec_capacity}
use Rattle.std.specs.Mem.Slots.{slots_items, slots_filled, slots_len}
use Rattle.std.specs.Mem.Slots.Ownership.{Filled}
use Rattle.ea_pool.proofs.shared.pool.Pool.close.Given as goal

-- the first heaps were moved to the row, and the others are still in their slots
abbrev pub invariant-loop-k : goal.invariant-loop-k
invariant-loop-k g l =
    (slots_items l.closed.slots ≡ slots_items l.initial.closed.slots) × (slots_len l.closed.slots ≡ l.heaps) × (l.row.items ≡ take l.k (slots_items l.closed.slots)) × (vec_len l.row ≡ l.k) × (l.heaps ≤ vec_capacity l.row)
    × Filled (slots_filled l.closed.slots) l.k (slots_len l.closed.slots) × ((k : ℕ) → k < l.k → get_or (slots_filled l.closed.slots) k false ≡ false)
