use Rattle.std.proofs.Common.{rules, of_calls}
use Rattle.ea_pool.proofs.HeapOrder.{same_permuted}
use Rattle.ea_pool.proofs.heap.least_heap.LeastHeap.push.Goals as goal
use Rattle.ea_pool.proofs.heap.least_heap.LeastHeap.push.Goals.{in-Ok, in-Err}

pub returns : goal.returns
returns g c = elim c.match-push.branch [
  | in-Ok w ↦ rw (w.result-is, ← c.self.view_is) (λ f. same_permuted (λ r. r.0) _ _ w.in-Ok.ensures.permutation f)
  | in-Err w ↦ rw (w.result-is, ← c.self.view_is) (search (rules, of_calls))
]
