use Rattle.std.proofs.Common.{◌≡◌, ◌<◌, ℕ, subst, rules, true, false, List, ap, ◌∙◌, sym, arith}
use Rattle.ea_pool.specs.declared.heap.entry.Entry.{Entry}
use Rattle.ea_pool.specs.States.{saw}
use Rattle.ea_pool.specs.Plays.{Place}
use Rattle.ea_pool.proofs.Tells.{none_out, never_missed, still_shares, holds_room, gives_batch, rests_batch, took_batch, pushes_batch, pushes_whole}
use Rattle.ea_pool.proofs.shared.pool.Pool.push_all_at.Goals as goal
use Rattle.ea_pool.proofs.shared.pool.Pool.push_all_at.Goals.{then-seen-eq-OUT-via-then-seen-eq-OUT, then-seen-eq-OUT-via-else-seen-eq-OUT+then-not-take}

pub returns-then-seen-eq-OUT-clause-push : goal.returns-then-seen-eq-OUT-clause-push
returns-then-seen-eq-OUT-clause-push g c = record {
  pushed = search rules;
  alone = λ whole.
      let saw = ap (λ (m : Place). m.0) c.look-seen.ensures.sees.saw_it in
      elim c.then-seen-eq-OUT.branch [
        | then-seen-eq-OUT-via-then-seen-eq-OUT w ↦ none_out g.K.Known.is_known g.H.EntryHeap.kind c.args.self.now.heaps c.args.seat.now.me.0 c.look-seen.new.seat.me.0 c.args.heap c.look-seen.result (c.look-seen.ensures.sees.alone whole) saw c.requires.seat.in_pool w.if-seen-eq-OUT.true
        | then-seen-eq-OUT-via-else-seen-eq-OUT+then-not-take w ↦
            let e : true ≡ false = sym (never_missed c.args.seat.now.me.0 c.look-seen.new.seat.me.0 c.args.heap c.look-seen.result w.take.result saw w.take.ensures.takes.alone whole) ∙ w.if-not-take.true in cc
      ];
}

pub push_all_in-all-requires-clause-may : goal.push_all_in-all-requires-clause-may
push_all_in-all-requires-clause-may g c κs within =
    let saw_it = c.look-seen.ensures.sees.saw_it ∙ ap (λ (l : List (ℕ × List Entry)). (saw c.args.seat.now.me.0 c.args.heap c.look-seen.result, l)) c.requires.seat.rests.0 in
    record { of_pool = c.take.ensures.table ∙ c.look-seen.ensures.table ∙ c.requires.seat.of_pool; held = holds_room g.K.Known.is_known g.H.EntryHeap.kind c.args.seat.now.me.0 c.look-seen.new.seat.me c.take.new.seat.me c.args.heap c.look-seen.result c.args.batch.now.items saw_it (c.take.ensures.takes.took c.if-not-take.false) c.requires.known g.K.Known.within }

pub give_pushed-requires-clause-may : goal.give_pushed-requires-clause-may
give_pushed-requires-clause-may g c κs within =
    let saw_it = c.look-seen.ensures.sees.saw_it ∙ ap (λ (l : List (ℕ × List Entry)). (saw c.args.seat.now.me.0 c.args.heap c.look-seen.result, l)) c.requires.seat.rests.0 in
    record {
      of_pool = c.push_all_in-all.ensures.keeps.same_table ∙ c.take.ensures.table ∙ c.look-seen.ensures.table ∙ c.requires.seat.of_pool;
      in_pool = c.requires.seat.in_pool;
      has_share = still_shares g.K.Known.is_known g.H.EntryHeap.kind c.look-seen.new.seat.me c.take.new.seat.me c.push_all_in-all.new.seat.me c.args.heap c.look-seen.result (c.take.ensures.takes.took c.if-not-take.false) c.push_all_in-all.ensures.keeps.view (subst (λ (m : Place). 0 < m.0.shares) (sym c.look-seen.ensures.sees.saw_it) c.requires.seat.rests.2);
      held = gives_batch g.K.Known.is_known g.H.EntryHeap.kind c.args.seat.now.me.0 c.look-seen.new.seat.me c.take.new.seat.me c.args.heap c.look-seen.result c.args.batch.now.items saw_it (c.take.ensures.takes.took c.if-not-take.false) c.requires.known c.push_all_in-all.new.seat.me c.push_all_in-all.new.batch.items c.push_all_in-all.result.1 c.push_all_in-all.ensures.keeps.view c.push_all_in-all.ensures.moves;
    }

pub returns-then-all-clause-seat : goal.returns-then-all-clause-seat
returns-then-all-clause-seat g c =
    let saw_it = c.look-seen.ensures.sees.saw_it ∙ ap (λ (l : List (ℕ × List Entry)). (saw c.args.seat.now.me.0 c.args.heap c.look-seen.result, l)) c.requires.seat.rests.0 in
    record {
      same_table = c.give_pushed.ensures.table ∙ c.push_all_in-all.ensures.keeps.same_table ∙ c.take.ensures.table ∙ c.look-seen.ensures.table;
      rests = rests_batch g.K.Known.is_known g.H.EntryHeap.kind c.args.seat.now.me.0 c.look-seen.new.seat.me c.take.new.seat.me c.args.heap c.look-seen.result c.args.batch.now.items saw_it (c.take.ensures.takes.took c.if-not-take.false) c.requires.known c.push_all_in-all.new.seat.me c.push_all_in-all.new.batch.items c.push_all_in-all.result.1 c.push_all_in-all.ensures.keeps.view c.push_all_in-all.ensures.moves c.give_pushed.new.seat.me c.give_pushed.ensures.pushed c.requires.seat.rests.2;
    }

pub returns-then-all-clause-push : goal.returns-then-all-clause-push
returns-then-all-clause-push g c = record {
  pushed =
      let none = c.push_all_in-all.ensures.moves.2.2.0.none_left c.if-all.true in
      let saw_it = c.look-seen.ensures.sees.saw_it ∙ ap (λ (l : List (ℕ × List Entry)). (saw c.args.seat.now.me.0 c.args.heap c.look-seen.result, l)) c.requires.seat.rests.0 in
      (pushes_whole g.K.Known.is_known g.H.EntryHeap.kind c.args.seat.now.me.0 c.look-seen.new.seat.me c.take.new.seat.me c.args.heap c.look-seen.result c.args.batch.now.items saw_it (c.take.ensures.takes.took c.if-not-take.false) c.requires.known c.push_all_in-all.new.seat.me c.push_all_in-all.new.batch.items c.push_all_in-all.result.1 c.push_all_in-all.ensures.keeps.view c.push_all_in-all.ensures.moves c.give_pushed.new.seat.me c.give_pushed.ensures.pushed none, none);
  alone = λ whole. tt;
}

pub returns-then-all-clause-tried : goal.returns-then-all-clause-tried
returns-then-all-clause-tried g c =
    let saw_it = c.look-seen.ensures.sees.saw_it ∙ ap (λ (l : List (ℕ × List Entry)). (saw c.args.seat.now.me.0 c.args.heap c.look-seen.result, l)) c.requires.seat.rests.0 in
    took_batch g.K.Known.is_known g.H.EntryHeap.kind c.args.seat.now.me.0 c.look-seen.new.seat.me c.take.new.seat.me c.args.heap c.look-seen.result c.args.batch.now.items saw_it (c.take.ensures.takes.took c.if-not-take.false) c.requires.known c.push_all_in-all.new.seat.me c.push_all_in-all.new.batch.items c.push_all_in-all.result.1 c.push_all_in-all.ensures.keeps.view c.push_all_in-all.ensures.moves c.give_pushed.new.seat.me c.give_pushed.ensures.pushed

pub returns-else-all-clause-seat : goal.returns-else-all-clause-seat
returns-else-all-clause-seat g c =
    let saw_it = c.look-seen.ensures.sees.saw_it ∙ ap (λ (l : List (ℕ × List Entry)). (saw c.args.seat.now.me.0 c.args.heap c.look-seen.result, l)) c.requires.seat.rests.0 in
    record {
      same_table = c.give_pushed.ensures.table ∙ c.push_all_in-all.ensures.keeps.same_table ∙ c.take.ensures.table ∙ c.look-seen.ensures.table;
      rests = rests_batch g.K.Known.is_known g.H.EntryHeap.kind c.args.seat.now.me.0 c.look-seen.new.seat.me c.take.new.seat.me c.args.heap c.look-seen.result c.args.batch.now.items saw_it (c.take.ensures.takes.took c.if-not-take.false) c.requires.known c.push_all_in-all.new.seat.me c.push_all_in-all.new.batch.items c.push_all_in-all.result.1 c.push_all_in-all.ensures.keeps.view c.push_all_in-all.ensures.moves c.give_pushed.new.seat.me c.give_pushed.ensures.pushed c.requires.seat.rests.2;
    }

pub returns-else-all-clause-push : goal.returns-else-all-clause-push
returns-else-all-clause-push g c = record {
  pushed =
      let saw_it = c.look-seen.ensures.sees.saw_it ∙ ap (λ (l : List (ℕ × List Entry)). (saw c.args.seat.now.me.0 c.args.heap c.look-seen.result, l)) c.requires.seat.rests.0 in
      pushes_batch g.K.Known.is_known g.H.EntryHeap.kind c.args.seat.now.me.0 c.look-seen.new.seat.me c.take.new.seat.me c.args.heap c.look-seen.result c.args.batch.now.items saw_it (c.take.ensures.takes.took c.if-not-take.false) c.requires.known c.push_all_in-all.new.seat.me c.push_all_in-all.new.batch.items c.push_all_in-all.result.1 c.push_all_in-all.ensures.keeps.view c.push_all_in-all.ensures.moves c.give_pushed.new.seat.me c.give_pushed.ensures.pushed (omega (arith, c.push_all_in-all.ensures.moves.2.2.0.some_left c.if-all.false));
  alone = λ whole. tt;
}

pub returns-else-all-clause-tried : goal.returns-else-all-clause-tried
returns-else-all-clause-tried g c =
    let saw_it = c.look-seen.ensures.sees.saw_it ∙ ap (λ (l : List (ℕ × List Entry)). (saw c.args.seat.now.me.0 c.args.heap c.look-seen.result, l)) c.requires.seat.rests.0 in
    took_batch g.K.Known.is_known g.H.EntryHeap.kind c.args.seat.now.me.0 c.look-seen.new.seat.me c.take.new.seat.me c.args.heap c.look-seen.result c.args.batch.now.items saw_it (c.take.ensures.takes.took c.if-not-take.false) c.requires.known c.push_all_in-all.new.seat.me c.push_all_in-all.new.batch.items c.push_all_in-all.result.1 c.push_all_in-all.ensures.keeps.view c.push_all_in-all.ensures.moves c.give_pushed.new.seat.me c.give_pushed.ensures.pushed
