use Rattle.std.proofs.Common.{rules, refl, eqb-true, arith, ap}
use Rattle.ea_pool.proofs.Moves.{tries, hits, took_seen}
use Rattle.ea_pool.proofs.shared.pool.Pool.take.Goals as goal

pub compare_exchange-requires : goal.compare_exchange-requires
compare_exchange-requires g c = let rests = c.requires.rests.0 in
    (search rules, search rules, tries _ _ _ _ _ _ _ _ rests.2 (omega (arith, c.requires.table.1, c.self.invariant.1, ap (λ p. p.heaps) c.self.view_is)) c.requires.rests.1 rests.1)

pub returns-clause-takes : goal.returns-clause-takes
returns-clause-takes g c = record {
  took = λ hit. let same = eqb-true _ _ hit in took_seen g.K.Known.is_known g.H.EntryHeap.kind c.args.seat.now.me c.compare_exchange.new.seat.me c.args.heap c.compare_exchange.result c.args.seen same (c.compare_exchange.ensures.2.0 same c.args.heap refl);
  missed = search rules;
  alone = λ whole. hits c.args.heap c.compare_exchange.result c.args.seen c.args.seat.now.me.0.seen (c.compare_exchange.ensures.2.2 whole);
}
