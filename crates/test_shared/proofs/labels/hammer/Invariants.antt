use Rattle.std.proofs.Common.{◌≡◌}
use Rattle.test_shared.proofs.labels.hammer.Given as goal

abbrev pub invariant-loop-round : goal.invariant-loop-round
invariant-loop-round l = (l.seat.table ≡ l.initial.seat.table) × (l.seat.history.shares ≡ l.initial.seat.history.shares)
