use Rattle.std.proofs.Common.{◌≡◌}
use Rattle.test_shared.proofs.heaps.lower.Given as goal

abbrev pub invariant-loop-step : goal.invariant-loop-step
invariant-loop-step l = l.seat.table ≡ l.initial.seat.table
