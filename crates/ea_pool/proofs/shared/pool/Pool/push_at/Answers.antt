use Rattle.std.proofs.Common.{◌<◌, ap, ◌∙◌, sym, subst, rules}
use Rattle.ea_pool.specs.Plays.{Place}
use Rattle.ea_pool.proofs.Tells.{none_out, never_missed, gives_one, still_shares, pushes_one, rests_one, took_one}
use Rattle.ea_pool.proofs.shared.pool.Pool.push_at.Goals as goal
use Rattle.ea_pool.proofs.shared.pool.Pool.push_at.Goals.{then-seen-eq-OUT-via-then-seen-eq-OUT, then-seen-eq-OUT-via-else-seen-eq-OUT+then-not-take}

pub returns-then-seen-eq-OUT-clause-push : goal.returns-then-seen-eq-OUT-clause-push
returns-then-seen-eq-OUT-clause-push g c = record {
  pushed = tt;
  refused = search rules;
  alone = λ whole.
      let saw = ap (λ (m : Place). m.0) c.look-seen.ensures.sees.saw_it in
      elim c.then-seen-eq-OUT.branch [
        | then-seen-eq-OUT-via-then-seen-eq-OUT w ↦ absurd (none_out g.K.Known.is_known g.H.EntryHeap.kind c.args.self.now.heaps c.args.seat.now.me.0 c.look-seen.new.seat.me.0 c.args.heap c.look-seen.result (c.look-seen.ensures.sees.alone whole) saw c.requires.seat.in_pool w.if-seen-eq-OUT.true)
        | then-seen-eq-OUT-via-else-seen-eq-OUT+then-not-take w ↦ sym (never_missed c.args.seat.now.me.0 c.look-seen.new.seat.me.0 c.args.heap c.look-seen.result w.take.result saw w.take.ensures.takes.alone whole) ∙ w.if-not-take.true
      ];
}

pub give_pushed-requires-clause-may : goal.give_pushed-requires-clause-may
give_pushed-requires-clause-may g c = λ _ _. record {
  of_pool = c.push_in.ensures.keeps.same_table ∙ c.take.ensures.table ∙ c.look-seen.ensures.table ∙ c.requires.seat.of_pool;
  in_pool = c.requires.seat.in_pool;
  has_share = still_shares g.K.Known.is_known g.H.EntryHeap.kind c.look-seen.new.seat.me c.take.new.seat.me c.push_in.new.seat.me c.args.heap c.look-seen.result (c.take.ensures.takes.took c.if-not-take.false) c.push_in.ensures.keeps.view (subst (λ (m : Place). 0 < m.0.shares) (sym c.look-seen.ensures.sees.saw_it) c.requires.seat.rests.2);
  held = gives_one g.K.Known.is_known g.H.EntryHeap.kind c.look-seen.new.seat.me c.take.new.seat.me c.push_in.new.seat.me c.args.heap c.look-seen.result c.args.entry c.push_in.result.0 c.push_in.result.1 (c.take.ensures.takes.took c.if-not-take.false) c.push_in.ensures.keeps.view c.in-Ok-default.is-0 c.push_in.ensures.moves c.requires.known;
}

pub returns-in-Ok-default-clause-push : goal.returns-in-Ok-default-clause-push
returns-in-Ok-default-clause-push g c = record {
  pushed = pushes_one g.K.Known.is_known g.H.EntryHeap.kind c.args.seat.now.me.0 c.look-seen.new.seat.me c.take.new.seat.me c.push_in.new.seat.me c.give_pushed.new.seat.me c.args.heap c.look-seen.result c.args.entry c.push_in.result.0 c.push_in.result.1 (ap (λ (m : Place). m.0) c.look-seen.ensures.sees.saw_it) (c.take.ensures.takes.took c.if-not-take.false) c.push_in.ensures.keeps.view c.in-Ok-default.is-0 c.push_in.ensures.moves c.give_pushed.ensures.pushed;
  refused = tt;
  alone = λ whole. tt;
}

pub returns-in-Ok-default-clause-seat : goal.returns-in-Ok-default-clause-seat
returns-in-Ok-default-clause-seat g c = record {
  same_table = c.give_pushed.ensures.table ∙ c.push_in.ensures.keeps.same_table ∙ c.take.ensures.table ∙ c.look-seen.ensures.table;
  rests = rests_one g.K.Known.is_known g.H.EntryHeap.kind c.args.seat.now.me.0 c.look-seen.new.seat.me c.take.new.seat.me c.push_in.new.seat.me c.give_pushed.new.seat.me c.args.heap c.look-seen.result c.args.entry c.push_in.result.0 c.push_in.result.1 (ap (λ (m : Place). m.0) c.look-seen.ensures.sees.saw_it) (c.take.ensures.takes.took c.if-not-take.false) c.push_in.ensures.keeps.view c.in-Ok-default.is-0 c.push_in.ensures.moves c.give_pushed.ensures.pushed c.requires.seat.rests.2;
}

pub returns-in-Ok-default-clause-tried : goal.returns-in-Ok-default-clause-tried
returns-in-Ok-default-clause-tried g c = took_one g.K.Known.is_known g.H.EntryHeap.kind c.args.seat.now.me.0 c.look-seen.new.seat.me c.take.new.seat.me c.push_in.new.seat.me c.give_pushed.new.seat.me c.args.heap c.look-seen.result c.args.entry c.push_in.result.0 c.push_in.result.1 (ap (λ (m : Place). m.0) c.look-seen.ensures.sees.saw_it) (c.take.ensures.takes.took c.if-not-take.false) c.push_in.ensures.keeps.view c.in-Ok-default.is-0 c.push_in.ensures.moves c.give_pushed.ensures.pushed
