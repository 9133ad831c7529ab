use Rattle.std.proofs.Common.{◌≡◌, [], replicate}
use Rattle.ea_pool.proofs.shared.opening.empty_heaps.Given as goal

abbrev pub invariant-loop : goal.invariant-loop
invariant-loop g l = l.row.items ≡ replicate l.counter []
