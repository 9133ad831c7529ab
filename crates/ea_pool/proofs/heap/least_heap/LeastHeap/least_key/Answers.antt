use Rattle.std.proofs.Common.{refl, arith, sym, ◌∙◌, ap, map}
use Rattle.ea_pool.specs.Entries.{least_key}
use Rattle.ea_pool.proofs.HeapOrder.{least_from_greatest, top_is_there, least_key_is}
use Rattle.ea_pool.proofs.heap.least_heap.LeastHeap.least_key.Goals as goal

pub returns-in-Some-clause-key : goal.returns-in-Some-clause-key
returns-in-Some-clause-key g c =
    let h = c.in-Some.ensures in
    let long = c.self.inside.entries.data.ok in
    sym (ap least_key (sym c.self.view_is) ∙ least_key_is c.in-Some.field-0.now.0 (map (λ r. r.0) c.self.inside.entries.data.items) (least_from_greatest (λ r. r.0) _ _ (h.greatest c.self.invariant)) (top_is_there (λ r. r.0) c.in-Some.field-0.now _ (omega (arith, h.variant.0 refl, long.0)) h.lookup))

pub returns-in-Some-clause-least : goal.returns-in-Some-clause-least
returns-in-Some-clause-least g c =
    let h = c.in-Some.ensures in
    let long = c.self.inside.entries.data.ok in
    rw (← c.self.view_is) (c.in-Some.field-0.now.0, refl, least_from_greatest (λ r. r.0) _ _ (h.greatest c.self.invariant), top_is_there (λ r. r.0) c.in-Some.field-0.now _ (omega (arith, h.variant.0 refl, long.0)) h.lookup)
