use Rattle.std.proofs.Common.{◌∙◌}
use Rattle.ea_pool.specs.Kinds.{Least}
use Rattle.ea_pool.proofs.Tells.{gives_some, still_shares, rests_after, pops_least, took_least, all_done, was_left}
use Rattle.ea_pool.proofs.shared.attempts.Pool+K+A.pop_at.Goals as goal

pub give_popped-requires-clause-may : goal.give_popped-requires-clause-may
give_popped-requires-clause-may g c = λ _ _. record {
  of_pool = c.pop_in.ensures.keeps.same_table ∙ c.take.ensures.table ∙ c.requires.seat.of_pool;
  in_pool = c.requires.seat.in_pool;
  has_share = still_shares g.K.Known.is_known Least c.args.seat.now.me c.take.new.seat.me c.pop_in.new.seat.me c.args.heap c.args.seen (c.take.ensures.takes.took c.if-not-take.false) c.pop_in.ensures.keeps.view c.requires.seat.rests.2;
  held = gives_some g.K.Known.is_known c.args.seat.now.me c.take.new.seat.me c.pop_in.new.seat.me c.args.heap c.args.seen c.in-Some-default.entry c.pop_in.result.0 c.pop_in.result.1 (c.take.ensures.takes.took c.if-not-take.false) c.pop_in.ensures.keeps.view c.in-Some-default.is-0 c.pop_in.ensures.moves;
}

pub returns-clause-seat : goal.returns-clause-seat
returns-clause-seat g c = record {
  same_table = c.give_popped.ensures.table ∙ c.pop_in.ensures.keeps.same_table ∙ c.take.ensures.table;
  rests = rests_after g.K.Known.is_known c.args.seat.now.me c.take.new.seat.me c.pop_in.new.seat.me c.give_popped.new.seat.me c.args.heap c.args.seen c.in-Some-default.entry c.pop_in.result.0 c.pop_in.result.1 (c.take.ensures.takes.took c.if-not-take.false) c.pop_in.ensures.keeps.view c.in-Some-default.is-0 c.pop_in.ensures.moves c.give_popped.ensures.popped c.requires.seat.rests.2;
}

pub returns-clause-pops : goal.returns-clause-pops
returns-clause-pops g c = record {
  popped = pops_least g.K.Known.is_known c.args.seat.now.me c.take.new.seat.me c.pop_in.new.seat.me c.give_popped.new.seat.me c.args.heap c.args.seen c.in-Some-default.entry c.pop_in.result.0 c.pop_in.result.1 (c.take.ensures.takes.took c.if-not-take.false) c.pop_in.ensures.keeps.view c.in-Some-default.is-0 c.pop_in.ensures.moves c.give_popped.ensures.popped g.K.Known.within;
  took = took_least g.K.Known.is_known c.args.seat.now.me c.take.new.seat.me c.pop_in.new.seat.me c.give_popped.new.seat.me c.args.heap c.args.seen c.in-Some-default.entry c.pop_in.result.0 c.pop_in.result.1 (c.take.ensures.takes.took c.if-not-take.false) c.pop_in.ensures.keeps.view c.in-Some-default.is-0 c.pop_in.ensures.moves c.give_popped.ensures.popped;
  alone = λ _. all_done c.args.heap c.args.seen c.args.seat.now.me.0.seen;
  left = was_left g.K.Known.is_known c.args.seat.now.me c.take.new.seat.me c.pop_in.new.seat.me c.give_popped.new.seat.me c.args.heap c.args.seen c.in-Some-default.entry c.pop_in.result.0 c.pop_in.result.1 (c.take.ensures.takes.took c.if-not-take.false) c.pop_in.ensures.keeps.view c.in-Some-default.is-0 c.pop_in.ensures.moves c.give_popped.ensures.popped;
}
