use Rattle.std.proofs.Common.{◌+◌, ℕ, List, sym, ap, ◌∙◌, subst, Option}
use Rattle.ea_pool.specs.declared.heap.entry.Entry.{Entry}
use Rattle.ea_pool.specs.Entries.{least_key}
use Rattle.ea_pool.specs.Left.{IsBestOf}
use Rattle.ea_pool.proofs.SoloPops.{content_is}
use Rattle.ea_pool.proofs.Leaving.{better_step}
use Rattle.ea_pool.proofs.shared.closed_pool.best_heap.Goals as goal

pub loop-place-preserved : goal.loop-place-preserved
loop-place-preserved g c =
    let heaps : List (List Entry) = c.args.heaps.now in
    let place : ℕ = c.loop-place.place in
    let heap = c.index-heaps-place in
    subst (λ (o : Option (ℕ × ℕ)). IsBestOf heaps (place + 1) o) (sym c.better-best.ensures)
    (better_step heaps place c.loop-place.best c.least_key.result c.loop-place-test.true (c.least_key.ensures.key ∙ ap least_key (sym (content_is heaps place heap.result c.loop-place-test.true heap.is))) c.loop-place.invariant)
