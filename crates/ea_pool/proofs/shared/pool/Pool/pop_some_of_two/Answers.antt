use Rattle.std.proofs.Common.{rules, ◌≡◌, true, false, sym, ap, ◌∙◌, subst, ◌<◌, ℕ}
use Rattle.ea_pool.specs.declared.shared.account.SeatMemory.{SeatMemory}
use Rattle.ea_pool.specs.States.{saw}
use Rattle.ea_pool.specs.Plays.{Place, Surveys}
use Rattle.ea_pool.proofs.Tells.{none_out}
use Rattle.ea_pool.proofs.Alone.{is_nothing, hits_one, pops_lesser}
use Rattle.ea_pool.proofs.shared.pool.Pool.pop_some_of_two.Goals as goal
use Rattle.ea_pool.proofs.shared.pool.Pool.pop_some_of_two.Goals.{then-x-eq-OUT-via-then-x-eq-OUT, then-x-eq-OUT-via-else-x-eq-OUT+then-y-eq-OUT}

pub returns-then-x-eq-OUT-clause-pops : goal.returns-then-x-eq-OUT-clause-pops
returns-then-x-eq-OUT-clause-pops g c = record {
  popped = search rules;
  looked = search rules;
  alone = λ whole.
      let saw-x = ap (λ (m : Place). m.0) c.look-x.ensures.sees.saw_it in
      let saw-y = ap (λ (m : Place). m.0) c.look-y.ensures.sees.saw_it in
      elim c.then-x-eq-OUT.branch [
        | then-x-eq-OUT-via-then-x-eq-OUT w ↦ none_out g.K.Known.is_known g.H.EntryHeap.kind c.args.self.now.heaps c.args.seat.now.me.0 c.look-x.new.seat.me.0 c.args.i c.look-x.result (c.look-x.ensures.sees.alone whole) saw-x c.requires.heaps.0 w.if-x-eq-OUT.true
        | then-x-eq-OUT-via-else-x-eq-OUT+then-y-eq-OUT w ↦ none_out g.K.Known.is_known g.H.EntryHeap.kind c.args.self.now.heaps c.look-x.new.seat.me.0 c.look-y.new.seat.me.0 c.args.j c.look-y.result (c.look-y.ensures.sees.alone (ap (λ (a : SeatMemory). a.shares) saw-x ∙ whole)) saw-y c.requires.heaps.1 w.if-y-eq-OUT.true
      ];
  nothing = search rules;
}

pub returns-then-y-eq-EMPTY-clause-pops : goal.returns-then-y-eq-EMPTY-clause-pops
returns-then-y-eq-EMPTY-clause-pops g c = record {
  popped = search rules;
  looked = search rules;
  alone = search rules;
  nothing = λ whole two.
      let saw-x = ap (λ (m : Place). m.0) c.look-x.ensures.sees.saw_it in
      let saw-y = ap (λ (m : Place). m.0) c.look-y.ensures.sees.saw_it in
      let survey = subst (λ (h : ℕ). Surveys g.K.Known.is_known g.H.EntryHeap.kind h c.look-y.new.seat.me.0) two (c.look-y.ensures.sees.alone (ap (λ (a : SeatMemory). a.shares) saw-x ∙ whole)) in
      is_nothing g.K.Known.is_known g.H.EntryHeap.kind g.K.Known.within c.args.seat.now.me.0 c.look-y.new.seat.me.0 c.args.i c.look-x.result c.args.j c.look-y.result survey
      (saw-y ∙ ap (λ (a : SeatMemory). saw a c.args.j c.look-y.result) saw-x)
      (subst (λ (h : ℕ). c.args.i < h) two c.requires.heaps.0)
      (subst (λ (h : ℕ). c.args.j < h) two c.requires.heaps.1)
      c.requires.heaps.2
      c.if-x-eq-EMPTY.true c.if-y-eq-EMPTY.true;
}

pub returns-then-pop_some_at-clause-pops : goal.returns-then-pop_some_at-clause-pops
returns-then-pop_some_at-clause-pops g c = record {
  popped =
      let saw-x = ap (λ (m : Place). m.0) c.look-x.ensures.sees.saw_it in
      let saw-y = ap (λ (m : Place). m.0) c.look-y.ensures.sees.saw_it in
      let both = saw-y ∙ ap (λ (a : SeatMemory). saw a c.args.j c.look-y.result) saw-x in
      pops_lesser g.K.Known.is_known g.H.EntryHeap.kind g.K.Known.within c.args.most c.args.self.now.heaps c.args.batch.now.items c.pop_some_at.new.batch.items c.args.seat.now.me.0 c.look-y.new.seat.me.0 c.pop_some_at.new.seat.me.0 c.args.i c.look-x.result c.args.j c.look-y.result c.pick-heap.result both c.pick-heap.ensures.lesser_is c.pick-heap.ensures.least
      (c.pop_some_at.ensures.pops.popped c.if-pop_some_at.true) c.requires.heaps.0 c.requires.heaps.1 c.requires.heaps.2
      (λ whole. c.look-y.ensures.sees.alone (ap (λ (a : SeatMemory). a.shares) saw-x ∙ whole));
  looked = search rules;
  alone = search rules;
  nothing = search rules;
}

pub returns-else-pop_some_at-clause-pops : goal.returns-else-pop_some_at-clause-pops
returns-else-pop_some_at-clause-pops g c = record {
  popped = search rules;
  looked = search rules;
  alone = λ whole.
      let saw-x = ap (λ (m : Place). m.0) c.look-x.ensures.sees.saw_it in
      let saw-y = ap (λ (m : Place). m.0) c.look-y.ensures.sees.saw_it in
      let both = saw-y ∙ ap (λ (a : SeatMemory). saw a c.args.j c.look-y.result) saw-x in
      let hit = hits_one c.args.seat.now.me.0 c.look-y.new.seat.me.0 c.args.i c.look-x.result c.args.j c.look-y.result c.pick-heap.result c.pop_some_at.result both c.pick-heap.ensures.one
      (c.pop_some_at.ensures.pops.alone (ap (λ (a : SeatMemory). a.shares) saw-y ∙ (ap (λ (a : SeatMemory). a.shares) saw-x ∙ whole))) in
      let e : true ≡ false = sym hit ∙ c.if-pop_some_at.false in cc;
  nothing = search rules;
}
