use Rattle.std.proofs.Common.{◌≡◌, ◌∙◌, sym, ap, arith, length, ℕ}
use Rattle.ea_pool.specs.Draws.{first_draw, second_draw}
use Rattle.ea_pool.proofs.SoloPops.{pops}
use Rattle.ea_pool.proofs.Ranks.{ranked, ranked_of_two}
use Rattle.ea_pool.proofs.solo.Solo.pop_at.Goals as goal

pub returns-clause-taken : goal.returns-clause-taken
returns-clause-taken g c =
    let heaps = c.self.inside.heaps.items in
    let long : c.len-heaps.result ≡ length heaps = omega (arith, c.len-heaps.ensures, c.self.inside.heaps.ok.0) in
    let long' : c.len-heaps.result ≡ length c.args.self.now = long ∙ ap (λ l. length l) c.self.view_is in
    pops heaps c.args.self.now c.draw_first-i.result _ c.draw_second-j.result _ c.choose-k.result c.least_key.result c.least_key-2.result c.index.result.now c.index-2.result.now c.index_mut-heap.result.now c.pop.new.self c.pop.result
    c.self.view_is
    (c.draw_first-i.ensures.is ∙ ap (λ (n : ℕ). first_draw n c.args.first) long')
    (c.draw_second-j.ensures.draw.is ∙ ap (λ (n : ℕ). second_draw n c.args.first c.args.second) long')
    (omega (arith, c.draw_first-i.ensures.near, long))
    (omega (arith, c.draw_second-j.ensures.draw.near, long))
    c.index.ensures c.index-2.ensures c.least_key.ensures.key c.least_key-2.ensures.key c.choose-k.ensures c.index_mut-heap.ensures.value c.pop.ensures

pub returns-clause-rank : goal.returns-clause-rank
returns-clause-rank g c =
    let heaps = c.self.inside.heaps.items in
    let long : c.len-heaps.result ≡ length heaps = omega (arith, c.len-heaps.ensures, c.self.inside.heaps.ok.0) in
    let long' : c.len-heaps.result ≡ length c.args.self.now = long ∙ ap (λ l. length l) c.self.view_is in
    let i = c.draw_first-i.ensures in
    let j = c.draw_second-j.ensures in
    let same-i : c.draw_first-i.result ≡ first_draw (length c.args.self.now) c.args.first = i.is ∙ ap (λ (n : ℕ). first_draw n c.args.first) long' in
    let same-j : c.draw_second-j.result ≡ second_draw (length c.args.self.now) c.args.first c.args.second = j.draw.is ∙ ap (λ (n : ℕ). second_draw n c.args.first c.args.second) long' in
    ranked c.args.self.now _ _ _ c.pop.result (omega (arith, i.near, same-i)) (omega (arith, j.draw.near, same-j)) (λ e. j.other (same-j ∙ (sym e ∙ (sym same-i ∙ i.is)))) (returns-clause-taken g c)

pub returns-clause-rank_of_two : goal.returns-clause-rank_of_two
returns-clause-rank_of_two g c = λ two.
    let heaps = c.self.inside.heaps.items in
    let long : c.len-heaps.result ≡ length heaps = omega (arith, c.len-heaps.ensures, c.self.inside.heaps.ok.0) in
    let long' : c.len-heaps.result ≡ length c.args.self.now = long ∙ ap (λ l. length l) c.self.view_is in
    let i = c.draw_first-i.ensures in
    let j = c.draw_second-j.ensures in
    let same-i : c.draw_first-i.result ≡ first_draw (length c.args.self.now) c.args.first = i.is ∙ ap (λ (n : ℕ). first_draw n c.args.first) long' in
    let same-j : c.draw_second-j.result ≡ second_draw (length c.args.self.now) c.args.first c.args.second = j.draw.is ∙ ap (λ (n : ℕ). second_draw n c.args.first c.args.second) long' in
    ranked_of_two c.args.self.now _ _ _ c.pop.result two (omega (arith, i.near, same-i)) (omega (arith, j.draw.near, same-j)) (λ e. j.other (same-j ∙ (sym e ∙ (sym same-i ∙ i.is)))) (returns-clause-taken g c)
