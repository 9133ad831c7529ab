use Rattle.std.proofs.Common.{◌≡◌, ◌+◌, ◌⊎◌, length}
use Rattle.std.specs.Prelude.{Contains}
use Rattle.ea_pool.specs.declared.heap.entry.Entry.{Entry}
use Rattle.ea_machine.specs.Totals.{total}
use Rattle.ea_engine.specs.Openings.{OpensUpTo}
use Rattle.ea_engine.proofs.run.drained.drain.Given as goal

abbrev pub invariant-loop-entry : goal.invariant-loop-entry
invariant-loop-entry g l = record {
  left : (entry : Entry) → Contains l.closed entry → Contains l.fn.closed entry;
  done : (entry : Entry) → Contains l.fn.closed entry → Contains l.closed entry ⊎ Contains l.todo.waiting entry.node;
  counted : l.drained + length l.closed ≡ length l.fn.closed;
  opens : OpensUpTo l.drained l.fn.todo l.todo;
}

abbrev pub decreases-loop-entry : goal.decreases-loop-entry
decreases-loop-entry g l = total (λ _. 1) l.closed
