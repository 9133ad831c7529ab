use Rattle.std.proofs.Common.{arith, rules}
use Rattle.std.proofs.lemmas.Result.{err_from_is_err_and}
use Rattle.ea_load.specs.Posed.{times_on}
use Rattle.ea_rank_command.proofs.Ranked.{next_delivered, ranks_stop}
use Rattle.ea_rank_command.proofs.ranking.rank_each.Goals as goal

pub returns-in_err-rank_one-clause-err : goal.returns-in_err-rank_one-clause-err
returns-in_err-rank_one-clause-err g c =
    let p = err_from_is_err_and c.from_residual.result c.from_residual.ensures.1 in
    let first = g.W.Device.seen c.args.out.now in
    rw (p.1, p.2) (ranks_stop c.args.heaps c.args.seed c.args.road.now.network (times_on c.args.road.now) c.args.queries.now c.loop-query.query-index c.query-item.result c.loop-query-test.true c.query-item.is first _ _ _ _ c.loop-query.invariant.borne (omega (arith, c.loop-query.invariant.bound, c.loop-query-test.true, c.requires.few)) c.loop-query.invariant.way _ c.in_err-rank_one.ensures.err)

pub loop-query-preserved : goal.loop-query-preserved
loop-query-preserved g c =
    let i = c.loop-query.query-index in
    let inv = c.loop-query.invariant in
    let first = g.W.Device.seen c.args.out.now in
    record {
      done = omega (arith, inv.done);
      way = next_delivered c.args.heaps c.args.seed c.args.road.now.network (times_on c.args.road.now) c.args.queries.now i c.query-item.result c.loop-query-test.true c.query-item.is first _ _ _ _ inv.way c.in_ok-rank_one.ensures.ok;
      borne = search rules;
      bound = omega (arith, c.in_ok-rank_one.ensures.ok.3, inv.bound);
    }
