use Rattle.std.proofs.Common.{rules, ◌∙◌}
use Rattle.ea_pool.proofs.Alone.{all_true}
use Rattle.ea_pool.proofs.Tells.{gives_rest, still_shares, rests_popped, pops_some}
use Rattle.ea_pool.proofs.shared.pool.Pool.pop_some_at.Goals as goal

pub give_popped-requires-clause-may : goal.give_popped-requires-clause-may
give_popped-requires-clause-may g c = λ _ _. record {
  of_pool = c.pop_some_in-word.ensures.keeps.same_table ∙ c.take.ensures.table ∙ c.requires.seat.of_pool;
  in_pool = c.requires.seat.in_pool;
  has_share = still_shares g.K.Known.is_known g.H.EntryHeap.kind c.args.seat.now.me c.take.new.seat.me c.pop_some_in-word.new.seat.me c.args.heap c.args.seen (c.take.ensures.takes.took c.if-not-take.false) c.pop_some_in-word.ensures.keeps.view c.requires.seat.rests.2;
  held = gives_rest g.K.Known.is_known g.H.EntryHeap.kind c.args.seat.now.me c.take.new.seat.me c.pop_some_in-word.new.seat.me c.args.heap c.args.seen c.args.most c.args.batch.now.items c.pop_some_in-word.new.batch.items c.pop_some_in-word.result (c.take.ensures.takes.took c.if-not-take.false) c.pop_some_in-word.ensures.keeps.view c.pop_some_in-word.ensures.moves;
}

pub returns-clause-seat : goal.returns-clause-seat
returns-clause-seat g c = record {
  same_table = c.give_popped.ensures.table ∙ c.pop_some_in-word.ensures.keeps.same_table ∙ c.take.ensures.table;
  rests = rests_popped g.K.Known.is_known g.H.EntryHeap.kind c.args.seat.now.me c.take.new.seat.me c.pop_some_in-word.new.seat.me c.args.heap c.args.seen c.args.most c.args.batch.now.items c.pop_some_in-word.new.batch.items c.pop_some_in-word.result (c.take.ensures.takes.took c.if-not-take.false) c.pop_some_in-word.ensures.keeps.view c.pop_some_in-word.ensures.moves c.give_popped.new.seat.me c.give_popped.ensures.popped c.requires.seat.rests.2;
}

pub returns-clause-pops : goal.returns-clause-pops
returns-clause-pops g c = record {
  popped = λ _. pops_some g.K.Known.is_known g.H.EntryHeap.kind c.args.seat.now.me c.take.new.seat.me c.pop_some_in-word.new.seat.me c.args.heap c.args.seen c.args.most c.args.batch.now.items c.pop_some_in-word.new.batch.items c.pop_some_in-word.result (c.take.ensures.takes.took c.if-not-take.false) c.pop_some_in-word.ensures.keeps.view c.pop_some_in-word.ensures.moves c.give_popped.new.seat.me c.give_popped.ensures.popped c.requires.room.0 c.requires.some;
  busy = search rules;
  alone = λ _. all_true c.args.heap c.args.seen c.args.seat.now.me.0.seen;
}
