use Rattle.std.proofs.Common.{◌≡◌, ℕ, ◌<◌, get_or}
use Rattle.std.specs.Prelude.{None}
use Rattle.ea_road.specs.Queries.{Asking, IsProblem}
use Rattle.ea_check.proofs.checking.is_checkable.Given as goal

-- the queries so far can be checked
abbrev pub invariant-loop-query : goal.invariant-loop-query
invariant-loop-query l = (place : ℕ) (query : Asking) → place < l.query-index → IsProblem l.network l.classes (get_or {A = Asking} l.queries place query) × ((get_or {A = Asking} l.queries place query).target ≡ None)
