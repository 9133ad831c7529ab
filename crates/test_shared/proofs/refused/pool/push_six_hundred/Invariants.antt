use Rattle.std.proofs.Common.{◌≡◌}
use Rattle.ea_pool.specs.Seats.{account_of, IsSeatOf}
use Rattle.test_shared.proofs.refused.pool.push_six_hundred.Given as goal

abbrev pub invariant-loop-key : goal.invariant-loop-key
invariant-loop-key l = IsSeatOf l.pool l.seat × ((account_of l.seat).shares ≡ (account_of l.initial.seat).shares)
