use Rattle.std.proofs.Common.{◌≡◌, ◌≤◌, ◌*◌, ◌^◌, take}
use Rattle.ea_report.specs.Deliverers.{direct_delivery}
use Rattle.ea_load.specs.Posed.{times_on}
use Rattle.ea_rank_command.specs.Ranks.{AreDelivered}
use Rattle.ea_rank_command.proofs.ranking.rank_each.Given as goal

abbrev pub invariant-loop-query : goal.invariant-loop-query
invariant-loop-query g l = record {
  done : l.done ≡ l.query-index;
  way : AreDelivered l.heaps l.seed l.road.network (times_on l.road) (take l.query-index l.queries) (g.W.Device.seen l.fn.out) (g.W.Device.seen l.out) (direct_delivery l.direct);
  borne : l.direct.interruptions ≤ 1000;
  bound : l.direct.written ≤ l.query-index * 2 ^ 70;
}
