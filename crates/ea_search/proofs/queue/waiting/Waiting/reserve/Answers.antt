use Rattle.std.proofs.Common.{rules}
use Rattle.ea_search.proofs.Worklists.{IsWorklist-none}
use Rattle.ea_search.proofs.queue.waiting.Waiting.reserve.Goals as goal

pub invariant_of-result : goal.invariant_of-result
invariant_of-result c =
    rw (c.in_ok-queue.ensures.items, c.in_ok-marked.ensures.items_if_clones_equal (λ y e. search rules))
    (IsWorklist-none _ c.args.nodes c.in_ok-queue.ensures.capacity)
