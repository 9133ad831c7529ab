use Rattle.std.proofs.Common.{◌≡◌, length}
use Rattle.ea_search.proofs.queue.waiting.Waiting.clear.Given as goal

abbrev pub invariant-loop : goal.invariant-loop
invariant-loop l = record { nodes : l.self.nodes ≡ l.initial.self.nodes }

abbrev pub decreases-loop : goal.decreases-loop
decreases-loop l = length l.self.waiting
