use Rattle.std.proofs.Common.{◌≡◌, true}
use Rattle.test_search.proofs.searched.count_alike.Given as goal

abbrev pub invariant-loop-at : goal.invariant-loop-at
invariant-loop-at l = (l.search.nodes ≡ l.nodes) × (l.search.walks ≡ true)
