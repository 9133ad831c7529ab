use Rattle.std.proofs.lemmas.List.{nil_from_length}
use Rattle.std.proofs.Common.{◌≡◌, [], arith, sym, ap, ◌∙◌, map}
use Rattle.ea_pool.proofs.HeapOrder.{same_permuted, least_from_greatest}
use Rattle.ea_pool.proofs.heap.least_heap.LeastHeap.pop.Goals as goal
use Rattle.ea_pool.proofs.heap.least_heap.LeastHeap.pop.Goals.{in-Some, in-None}

pub returns : goal.returns
returns g c = elim c.match-pop.branch [
  | in-Some w ↦ rw (w.result-is, ← c.self.view_is) (least_from_greatest (λ r. r.0) _ _ (w.in-Some.ensures.heap_order c.self.invariant).1, λ f. sym (same_permuted (λ r. r.0) _ _ w.in-Some.ensures.permutation f))
  | in-None w ↦ rw (w.result-is, ← c.self.view_is)
      (let none = w.in-None.ensures.none in let same = w.in-None.ensures.unchanged.0 in let long = c.self.inside.entries.data.ok in
      let nothing : c.self.inside.entries.data.items ≡ [] = nil_from_length _ (omega (arith, long.0)) in
      (ap (map (λ r. r.0)) nothing, ap (map (λ r. r.0)) (same ∙ nothing)))
]
