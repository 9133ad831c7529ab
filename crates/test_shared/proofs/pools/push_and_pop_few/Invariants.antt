use Rattle.std.proofs.Common.{◌≡◌}
use Rattle.ea_pool.specs.Seats.{account_of, IsSeatOf}
use Rattle.test_shared.proofs.pools.push_and_pop_few.Given as goal

abbrev pub invariant-loop-step : goal.invariant-loop-step
invariant-loop-step g l = IsSeatOf l.pool l.seat × ((account_of l.seat).shares ≡ (account_of l.fn.seat).shares)
