use Rattle.std.proofs.Common.{◌≡◌, List, length, refl, ap, arith, ◌∙◌}
use Rattle.std.specs.List.{refill}
use Rattle.std.proofs.lemmas.List.{length-reverse}
use Rattle.ea_pool.specs.declared.heap.entry.Entry.{Entry}
use Rattle.std.specs.Prelude.{reverse}
use Rattle.arrayvec.specs.ArrayVec.{with_items}
use Rattle.ea_engine.proofs.TurnLemmas.{two_words, looked_by, took_by}
use Rattle.ea_engine.proofs.DoneRows.{written}
use Rattle.ea_engine.proofs.worker.turn_steps.pop_drawn.Goals as goal

-- the list after an in-place reversal
turned_back : (xs ys : List Entry) → ys ≡ reverse xs → refill (length xs) xs ys ≡ reverse xs
turned_back xs ys e = written (length xs) xs ys refl (ap length e ∙ length-reverse xs) ∙ e

pub pop_some_as-popped-requires-clause-room : goal.pop_some_as-popped-requires-clause-room
pop_some_as-popped-requires-clause-room g c κs outlives =
    let may = c.requires.may in
    (may.some, omega (arith, ap length may.none, may.few))

pub returns : goal.returns
returns g c =
    let pops = c.pop_some_as-popped.ensures.pops in
    record {
      of_pool = c.pop_some_as-popped.ensures.seat;
      popped = took_by _ _ _ _ _ _ _ _ _ (with_items c.pop_some_as-popped.new.batch c.reverse.new.self) _ _ _ _ c.requires.may.none pops.popped
          (turned_back c.pop_some_as-popped.new.batch.items c.reverse.new.self (c.reverse.ensures.after ∙ ap reverse c.deref_mut.ensures.value));
      looked = looked_by _ _ _ _ _ _ _ _ _ c.next_u64-first.ensures c.next_u64-second.ensures pops.looked;
      alone = pops.alone;
      nothing = pops.nothing;
      words_are = two_words _ _ _ _ _ c.next_u64-first.ensures c.next_u64-second.ensures;
    }
