use Rattle.ea_pool.specs.Left.{IsBestOf}
use Rattle.ea_pool.proofs.shared.closed_pool.best_heap.Given as goal

abbrev pub invariant-loop-place : goal.invariant-loop-place
invariant-loop-place g l = IsBestOf l.heaps l.place l.best
