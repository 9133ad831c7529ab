use Rattle.std.proofs.Common.{arith}
use Rattle.std.specs.Prelude.{vec_len}
use Rattle.ea_batch.proofs.Piling.{piled_at, piled_less}
use Rattle.ea_batch.proofs.lane.Desk.take.Goals as goal

pub returns-then-made-from-clause-pile : goal.returns-then-made-from-clause-pile
returns-then-made-from-clause-pile g c =
    let pile = c.gather.new.self.pile in
    let taken = c.swap_remove-made in
    piled_less c.args.job pile.items taken.new.self.items c.place_of-at.result (vec_len pile) (omega (arith, pile.ok.0)) (omega (arith, taken.ensures.len, taken.new.self.ok.0)) taken.ensures.by_index c.gather.ensures.pile

pub returns-else-made-from-clause-pile : goal.returns-else-made-from-clause-pile
returns-else-made-from-clause-pile g c =
    let pile = c.gather.new.self.pile in
    let taken = c.swap_remove-made in
    piled_less c.args.job pile.items taken.new.self.items c.place_of-at.result (vec_len pile) (omega (arith, pile.ok.0)) (omega (arith, taken.ensures.len, taken.new.self.ok.0)) taken.ensures.by_index c.gather.ensures.pile

pub returns-then-made-from-clause-drafts : goal.returns-then-made-from-clause-drafts
returns-then-made-from-clause-drafts g c =
    let pile = c.gather.new.self.pile in
    piled_at c.args.job pile.items c.place_of-at.result c.args.from c.swap_remove-made.result c.gather.ensures.pile (omega (arith, c.if-at-len.false, c.len.ensures, pile.ok.0)) c.swap_remove-made.ensures.value c.if-made-from.true
