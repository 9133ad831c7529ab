use Rattle.std.proofs.Common.{◌≡◌, [], ◌∷◌, ◌++◌, replicate, ◌∙◌, ap, arith}
use Rattle.ea_pool.proofs.Rows.{replicate_more}
use Rattle.ea_pool.proofs.shared.opening.empty_slots.Goals as goal

pub loop-preserved : goal.loop-preserved
loop-preserved g c =
    replicate_more _ _ c.loop.counter [] c.loop.invariant (c.in_ok-push.ensures.items ∙ ap (λ one. c.loop.row.items ++ one ∷ []) (c.new.ensures ∙ c.in_ok-heap.ensures))

pub returns : goal.returns
returns g c =
    let all : c.loop.counter ≡ c.args.heaps = omega (arith, c.loop-test.false, c.loop.auto.counter-end) in
    c.loop.invariant ∙ ap (λ n. replicate n []) all
