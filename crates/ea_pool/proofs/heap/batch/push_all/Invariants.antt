use Rattle.std.proofs.Common.{◌≡◌, ◌+◌, length}
use Rattle.ea_pool.specs.Batches.{GoesIn}
use Rattle.ea_pool.proofs.heap.batch.push_all.Given as goal

abbrev pub invariant-loop : goal.invariant-loop
invariant-loop g l = GoesIn l.initial.batch.items l.batch.items l.initial.heap l.heap × (length l.batch.items + l.counter ≡ l.end)
