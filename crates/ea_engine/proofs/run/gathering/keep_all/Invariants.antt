use Rattle.std.proofs.Common.{◌<◌, ℕ, get_or}
use Rattle.std.specs.Prelude.{Contains}
use Rattle.ea_pool.specs.declared.heap.entry.Entry.{Entry}
use Rattle.ea_engine.specs.Openings.{OpensUpTo}
use Rattle.ea_engine.proofs.run.gathering.keep_all.Given as goal

abbrev pub invariant-loop-entry : goal.invariant-loop-entry
invariant-loop-entry l = record {
  inside : (i : ℕ) (d : Entry) → i < l.entry-index → Contains l.todo.waiting (get_or l.entries.items i d).node;
  opens : OpensUpTo l.entry-index l.fn.todo l.todo;
}
