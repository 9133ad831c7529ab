use Rattle.std.proofs.Common.{ℕ, ◌<◌, ◌≤◌, get_or}
use Rattle.ea_road.proofs.problem.is_problem.Given as goal

-- the sources so far are nodes
abbrev pub invariant-loop-source : goal.invariant-loop-source
invariant-loop-source l = (place : ℕ) → place < l.source-index → (get_or l.source-items place (record { node = 0; departure = 0 })).node ≤ l.nodes
