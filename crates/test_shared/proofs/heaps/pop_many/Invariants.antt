use Rattle.std.proofs.Common.{◌≡◌}
use Rattle.ea_pool.specs.Seats.{account_of, IsSeatOf}
use Rattle.test_shared.proofs.heaps.pop_many.Given as goal

abbrev pub invariant-loop-step : goal.invariant-loop-step
invariant-loop-step l = IsSeatOf l.pool l.seat × ((account_of l.seat).shares ≡ (account_of l.initial.seat).shares)
