use Rattle.std.proofs.Common.{◌≡◌}
use Rattle.test_search.proofs.refused.finishing.added.Given as goal

abbrev pub invariant-loop-node : goal.invariant-loop-node
invariant-loop-node l = l.todo.nodes ≡ 8
