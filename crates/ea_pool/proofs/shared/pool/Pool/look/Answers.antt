use Rattle.std.proofs.Common.{◌∙◌, ℕ, rules, refl, arith, ap, subst}
use Rattle.ea_pool.specs.Plays.{Surveys}
use Rattle.ea_pool.proofs.Moves.{looks}
use Rattle.ea_pool.proofs.shared.pool.Pool.look.Goals as goal

pub load-requires : goal.load-requires
load-requires g c = (search rules, search rules, looks _ _ _ _ _ _ _ c.requires.seat.rests.2 (omega (arith, c.requires.seat.in_pool, c.self.invariant.1, ap (λ p. p.heaps) c.self.view_is)))

pub returns-clause-sees : goal.returns-clause-sees
returns-clause-sees g c = record {
  saw_it = (c.load.ensures.2.0 c.args.heap refl (omega (arith, c.requires.seat.in_pool, c.self.invariant.1, ap (λ p. p.heaps) c.self.view_is))).0;
  low = ((c.load.ensures.2.0 c.args.heap refl (omega (arith, c.requires.seat.in_pool, c.self.invariant.1, ap (λ p. p.heaps) c.self.view_is))).1, c.load.ensures.2.1);
  alone = λ whole. subst (λ (n : ℕ). Surveys g.K.Known.is_known g.H.EntryHeap.kind n c.load.new.seat.me.0) (c.self.invariant.1 ∙ ap (λ p. p.heaps) c.self.view_is) (c.load.ensures.2.2 whole c.requires.seat.rests.1);
}
