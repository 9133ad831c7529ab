use Rattle.std.proofs.Common.{ℕ}
use Rattle.ea_search.specs.Frontiers.{KeepsWaiting}
use Rattle.ea_search.proofs.buckets.frontier.Frontier.spread.Given as goal

abbrev pub invariant-moving : goal.invariant-moving
invariant-moving l = (label : ℕ → ℕ) → KeepsWaiting label l.initial.self l.self
