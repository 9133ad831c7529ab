use Rattle.std.proofs.Common.{arith}
use Rattle.ea_batch.specs.Drafts.{IsFit}
use Rattle.ea_batch.proofs.Held.{held_behind, held_in_front}
use Rattle.ea_batch.proofs.hand_over.get.Goals as goal

pub steal_as-requires-clause-takes : goal.steal_as-requires-clause-takes
steal_as-requires-clause-takes g c = λ taken left views some few held at.
    (tt, held_behind (IsFit g.J.Asks.fits) taken left held, held_in_front (IsFit g.J.Asks.fits) taken left held)

pub returns-in-Success : goal.returns-in-Success
returns-in-Success g c = λ k d inside query at.
    (c.requires.named.same _ _).0 (c.in-Success.ensures.rule 0 c.in-Success.made (omega arith) k d inside) query at
