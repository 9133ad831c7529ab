use Rattle.std.proofs.Common.{arith}
use Rattle.ea_report.specs.Deliverers.{direct_delivery}
use Rattle.ea_load.specs.Posed.{times_on}
use Rattle.ea_rank_command.proofs.Ranked.{rank_text, stops_for_device}
use Rattle.ea_rank_command.proofs.ranking.rank_one.Goals as goal

pub returns-in-Ok-put_ranks-clause-ok : goal.returns-in-Ok-put_ranks-clause-ok
returns-in-Ok-put_ranks-clause-ok g c =
    (_, rank_text c.args.heaps c.args.seed c.args.road.now.network (times_on c.args.road.now) c.args.query.now c.sources.result.now _ c.in-Ok.found.items c.deref.result.now c.of.result c.sources.ensures.sources c.requires.one.one c.in-Ok.ensures c.deref.ensures.value c.of.ensures, c.in-Ok-put_ranks.ensures.ok, omega (arith, c.in-Ok-put_ranks.ensures.bound))

pub returns-clause-err : goal.returns-clause-err
returns-clause-err g c =
    let old = g.W.Device.seen c.args.out.now in
    let now = g.W.Device.seen c.put_ranks.new.out in (
      _,
      rank_text c.args.heaps c.args.seed c.args.road.now.network (times_on c.args.road.now) c.args.query.now c.sources.result.now _ c.in-Ok.found.items c.deref.result.now c.of.result c.sources.ensures.sources c.requires.one.one c.in-Ok.ensures c.deref.ensures.value c.of.ensures,
      omega (arith, c.in-Err.ensures.small),
      λ exact. stops_for_device old now _ (direct_delivery c.args.direct.now) c.in-Err.fault c.in-Err.ensures.device (c.in-Err.ensures.err exact),
    )
