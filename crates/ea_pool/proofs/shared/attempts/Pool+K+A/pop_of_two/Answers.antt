use Rattle.std.proofs.Common.{rules, ap, ◌≡◌, ◌∙◌, subst, ◌<◌, ℕ}
use Rattle.ea_base.specs.declared.limits.TheConstants.{SHARES}
use Rattle.ea_pool.specs.declared.shared.account.SeatMemory.{SeatMemory}
use Rattle.ea_pool.specs.States.{saw}
use Rattle.ea_pool.specs.Kinds.{Least}
use Rattle.ea_pool.specs.Plays.{Place, Surveys}
use Rattle.ea_pool.proofs.Tells.{none_out}
use Rattle.ea_pool.proofs.Alone.{is_nothing, answered, pops_least_of_two}
use Rattle.ea_pool.proofs.shared.attempts.Pool+K+A.pop_of_two.Goals as goal
use Rattle.ea_pool.proofs.shared.attempts.Pool+K+A.pop_of_two.Goals.{then-x-eq-OUT-via-then-x-eq-OUT, then-x-eq-OUT-via-else-x-eq-OUT+then-y-eq-OUT}

pub returns-then-x-eq-OUT-clause-pops : goal.returns-then-x-eq-OUT-clause-pops
returns-then-x-eq-OUT-clause-pops g c =
    -- with all shares neither heap is out
    let none : c.args.seat.now.me.0.shares ≡ SHARES → ⊥ = λ whole.
    let saw-x = ap (λ (m : Place). m.0) c.look-x.ensures.sees.saw_it in
    let saw-y = ap (λ (m : Place). m.0) c.look-y.ensures.sees.saw_it in
    elim c.then-x-eq-OUT.branch [
      | then-x-eq-OUT-via-then-x-eq-OUT w ↦ none_out g.K.Known.is_known Least c.args.self.now.heaps c.args.seat.now.me.0 c.look-x.new.seat.me.0 c.args.i c.look-x.result (c.look-x.ensures.sees.alone whole) saw-x c.requires.heaps.0 w.if-x-eq-OUT.true
      | then-x-eq-OUT-via-else-x-eq-OUT+then-y-eq-OUT w ↦ none_out g.K.Known.is_known Least c.args.self.now.heaps c.look-x.new.seat.me.0 c.look-y.new.seat.me.0 c.args.j c.look-y.result (c.look-y.ensures.sees.alone (ap (λ (a : SeatMemory). a.shares) saw-x ∙ whole)) saw-y c.requires.heaps.1 w.if-y-eq-OUT.true
    ] in
    record {
      popped = search rules;
      looked = search rules;
      lesser = search rules;
      alone = none;
      least = λ whole _. none whole;
    }

pub returns-then-y-eq-EMPTY-clause-pops : goal.returns-then-y-eq-EMPTY-clause-pops
returns-then-y-eq-EMPTY-clause-pops g c = record {
  popped = search rules;
  looked = search rules;
  lesser = search rules;
  alone = search rules;
  least = λ whole two.
      let saw-x = ap (λ (m : Place). m.0) c.look-x.ensures.sees.saw_it in
      let saw-y = ap (λ (m : Place). m.0) c.look-y.ensures.sees.saw_it in
      let survey = subst (λ (h : ℕ). Surveys g.K.Known.is_known Least h c.look-y.new.seat.me.0) two (c.look-y.ensures.sees.alone (ap (λ (a : SeatMemory). a.shares) saw-x ∙ whole)) in
      is_nothing g.K.Known.is_known Least g.K.Known.within c.args.seat.now.me.0 c.look-y.new.seat.me.0 c.args.i c.look-x.result c.args.j c.look-y.result survey
      (saw-y ∙ ap (λ (a : SeatMemory). saw a c.args.j c.look-y.result) saw-x)
      (subst (λ (h : ℕ). c.args.i < h) two c.requires.heaps.0)
      (subst (λ (h : ℕ). c.args.j < h) two c.requires.heaps.1)
      c.requires.heaps.2
      c.if-x-eq-EMPTY.true c.if-y-eq-EMPTY.true;
}

pub returns-clause-pops : goal.returns-clause-pops
returns-clause-pops g c = record {
  popped = search rules;
  looked = search rules;
  lesser = search rules;
  alone = search rules;
  least = λ whole two.
      let saw-x = ap (λ (m : Place). m.0) c.look-x.ensures.sees.saw_it in
      let saw-y = ap (λ (m : Place). m.0) c.look-y.ensures.sees.saw_it in
      let survey = subst (λ (h : ℕ). Surveys g.K.Known.is_known Least h c.look-y.new.seat.me.0) two (c.look-y.ensures.sees.alone (ap (λ (a : SeatMemory). a.shares) saw-x ∙ whole)) in
      pops_least_of_two g.K.Known.is_known Least g.K.Known.within c.args.seat.now.me.0 c.look-y.new.seat.me.0 c.args.i c.look-x.result c.args.j c.look-y.result survey
      (saw-y ∙ ap (λ (a : SeatMemory). saw a c.args.j c.look-y.result) saw-x)
      (subst (λ (h : ℕ). c.args.i < h) two c.requires.heaps.0)
      (subst (λ (h : ℕ). c.args.j < h) two c.requires.heaps.1)
      c.requires.heaps.2
      c.pop_at.result c.pop_at.new.seat.me.0 c.pick-heap.result.1 c.pick-heap.ensures.least c.pop_at.ensures.pops.popped
      (answered c.args.seat.now.me.0 c.look-y.new.seat.me.0 c.args.i c.look-x.result c.args.j c.look-y.result c.pick-heap.result c.pop_at.result
      (saw-y ∙ ap (λ (a : SeatMemory). saw a c.args.j c.look-y.result) saw-x) c.pick-heap.ensures.one
      (c.pop_at.ensures.pops.alone (ap (λ (a : SeatMemory). a.shares) saw-y ∙ (ap (λ (a : SeatMemory). a.shares) saw-x ∙ whole))))
      (c.pop_at.ensures.pops.left (ap (λ (a : SeatMemory). a.shares) saw-y ∙ (ap (λ (a : SeatMemory). a.shares) saw-x ∙ whole)));
}
