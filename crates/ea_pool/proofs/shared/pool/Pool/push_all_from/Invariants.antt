use Rattle.std.proofs.Common.{◌≡◌}
use Rattle.ea_base.specs.declared.limits.TheConstants.{SHARES}
use Rattle.ea_pool.specs.Pools.{books, SameBooks, Rests}
use Rattle.ea_pool.specs.Tries.{Missed}
use Rattle.ea_pool.proofs.shared.pool.Pool.push_all_from.Given as goal

-- each attempt so far was refused, and with all shares none is
abbrev pub invariant-loop-attempt : goal.invariant-loop-attempt
invariant-loop-attempt g l =
    (l.seat.table_id ≡ l.initial.seat.table_id) × Rests l.seat.me × SameBooks (books l.initial.seat.me.0) (books l.seat.me.0) × (l.batch ≡ l.initial.batch) × (l.initial.seat.me.0.shares ≡ SHARES → l.attempt ≡ 0)
    × Missed l.self.heaps l.word l.attempt l.initial.seat.me.0.seen l.seat.me.0.seen
