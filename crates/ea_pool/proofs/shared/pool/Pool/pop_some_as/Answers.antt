use Rattle.std.proofs.Common.{ℕ, ap, ◌∙◌, subst}
use Rattle.ea_pool.specs.Batches.{IsBatchPop}
use Rattle.ea_pool.specs.Draws.{first_draw, second_draw}
use Rattle.ea_pool.specs.Pools.{view_of}
use Rattle.ea_pool.specs.Seats.{PoolView, SeatView}
use Rattle.ea_pool.proofs.shared.pool.Pool.pop_some_as.Goals as goal

pub returns-clause-pops : goal.returns-clause-pops
returns-clause-pops g c =
    let heaps : ℕ = c.args.self.now.heaps in
    let new = c.pop_some_of_two.new.seat in
    let Tells = λ (i j : ℕ) (s : SeatView). IsBatchPop g.K.Known.is_known g.H.EntryHeap.kind heaps i j c.args.most s (view_of new.table_id new.me) c.args.batch.now c.pop_some_of_two.new.batch c.pop_some_of_two.result in
    let same = ap (λ (p : PoolView). p.heaps) c.self.view_is in
    subst (λ (i : ℕ). Tells i (second_draw heaps c.args.first c.args.second) c.args.seat.now) (c.draw_first-i.ensures.is ∙ ap (λ (n : ℕ). first_draw n c.args.first) same)
    (subst (λ (j : ℕ). Tells c.draw_first-i.result j c.args.seat.now) (c.draw_second-j.ensures.draw.is ∙ ap (λ (n : ℕ). second_draw n c.args.first c.args.second) same)
    (subst (λ (s : SeatView). Tells c.draw_first-i.result c.draw_second-j.result s) c.seat.view_is c.pop_some_of_two.ensures.pops))
