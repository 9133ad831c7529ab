use Rattle.std.proofs.Common.{◌≡◌, true}
use Rattle.test_search.proofs.searched.ask_again.Given as goal

abbrev pub invariant-loop : goal.invariant-loop
invariant-loop g l = (l.search.nodes ≡ l.network.nodes) × (l.search.walks ≡ true)
