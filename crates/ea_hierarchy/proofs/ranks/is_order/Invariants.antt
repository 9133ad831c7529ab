use Rattle.ea_hierarchy.proofs.Ordering.{IsSeenTo}
use Rattle.ea_hierarchy.proofs.ranks.is_order.Given as goal

abbrev pub invariant-loop-place : goal.invariant-loop-place
invariant-loop-place l = IsSeenTo l.nodes l.order l.seen.items l.place
