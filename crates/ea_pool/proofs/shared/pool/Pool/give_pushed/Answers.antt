use Rattle.std.proofs.Common.{rules, arith, ap}
use Rattle.ea_pool.proofs.Moves.{gives_pushed_at}
use Rattle.ea_pool.proofs.shared.pool.Pool.give_pushed.Goals as goal

pub store-requires : goal.store-requires
store-requires g c = let t = c.requires.may.held in let h = t.2 in
    (search rules, search rules, gives_pushed_at _ _ _ _ _ _ _ _ h.0 t.0 t.1 c.requires.may.has_share (omega (arith, c.requires.may.in_pool, c.self.invariant.1, ap (λ p. p.heaps) c.self.view_is)) h.1 h.2.0 h.2.1.0 h.2.1.1 h.2.1.2)
