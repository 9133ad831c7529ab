use Rattle.std.proofs.Common.{◌≡◌, ◌++◌, List, length}
use Rattle.ea_pool.specs.declared.heap.entry.Entry.{Entry}
use Rattle.ea_pool.specs.Kinds.{Gives}
use Rattle.ea_pool.proofs.heap.batch.pop_some.Given as goal

abbrev pub invariant-loop : goal.invariant-loop
invariant-loop g l = (out : List Entry) × (l.batch.items ≡ l.initial.batch.items ++ out) × Gives g.H.EntryHeap.kind out l.initial.heap l.heap × (length out ≡ l.counter)
