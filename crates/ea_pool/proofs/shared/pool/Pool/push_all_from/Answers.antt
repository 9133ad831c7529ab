use Rattle.std.proofs.Common.{◌≡◌, ◌*◌, refl, ◌∙◌, ap, arith, subst}
use Rattle.ea_pool.specs.Draws.{try_draw}
use Rattle.ea_pool.specs.Tries.{Missed, MissedHeap}
use Rattle.ea_pool.proofs.Missing.{missed_more}
use Rattle.ea_pool.proofs.shared.pool.Pool.push_all_from.Goals as goal

pub loop-attempt-init : goal.loop-attempt-init
loop-attempt-init g c = (refl, c.requires.seat.rests, (refl, refl, refl), refl, (λ whole. refl), refl)

pub loop-attempt-preserved : goal.loop-attempt-preserved
loop-attempt-preserved g c =
    let i = c.loop-attempt.invariant in
    let e = rw c.in-Err-Busy.field-0-is at c.in-Err-Busy.ensures in
    let before = i.2 in
    let now = e.push.pushed.0 in
    let heap = c.draw_try-heap.ensures.is ∙ ap (λ p. try_draw p.heaps c.args.word c.loop-attempt.attempt) c.self.view_is in (
      e.seat.same_table ∙ i.0,
      e.seat.rests,
      (now.0 ∙ before.0, now.1 ∙ before.1, now.2 ∙ before.2),
      e.push.pushed.1 ∙ i.3,
      (λ whole. absurd (e.push.alone (before.0 ∙ whole))),
      missed_more _ _ _ _ _ _ i.5 (subst (λ h. MissedHeap h c.loop-attempt.seat.me.0.seen c.push_all_at.new.seat.me.0.seen) heap e.tried),
    )

pub returns-clause-tried : goal.returns-clause-tried
returns-clause-tried g c =
    let all : c.loop-attempt.attempt ≡ 2 * c.args.self.now.heaps = omega (arith, c.loop-attempt-test.false, c.loop-attempt.auto.attempt-end, ap (λ p. p.heaps) c.self.view_is) in
    subst (λ n. Missed c.args.self.now.heaps c.args.word n c.args.seat.now.me.0.seen c.loop-attempt.seat.me.0.seen) all c.loop-attempt.invariant.5
