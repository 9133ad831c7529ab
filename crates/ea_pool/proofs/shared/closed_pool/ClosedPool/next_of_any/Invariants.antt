use Rattle.std.proofs.Common.{◌≡◌, ℕ, ◌+◌, length}
use Rattle.ea_machine.specs.Totals.{total}
use Rattle.ea_pool.specs.declared.heap.entry.Entry.{Entry}
use Rattle.ea_pool.specs.Entries.{gathered}
use Rattle.ea_pool.proofs.shared.closed_pool.ClosedPool.next_of_any.Given as goal

-- the heaps that were taken off had no entry
abbrev pub invariant-emptied : goal.invariant-emptied
invariant-emptied g l =
    ((f : Entry → ℕ) → total f (gathered l.initial.self-inside.heaps.items) ≡ total f (gathered l.self-inside.heaps.items))
    × (length l.self-inside.heaps.items + l.counter ≡ length l.initial.self-inside.heaps.items)
