use Rattle.std.proofs.Common.{arith}
use Rattle.ea_check.specs.Verdicts.{Improves, reported_time}
use Rattle.ea_check.proofs.Judged.{still_found, still_passed}
use Rattle.ea_check.proofs.Sourced.{item_among}
use Rattle.ea_check.proofs.judge.verdict.lowest_by_sources.Goals as goal

pub lower_by_source-lowest-requires-clause-source : goal.lower_by_source-lowest-requires-clause-source
lower_by_source-lowest-requires-clause-source g c =
    item_among c.args.query.now.sources c.sources-source-items.result.now c.loop-source.source-index (record { node = 0; departure = 0 }) c.sources-source-items.ensures.sources c.loop-source-test.true

pub loop-source-preserved : goal.loop-source-preserved
loop-source-preserved g c =
    let was = c.loop-source.invariant in
    let now = c.lower_by_source-lowest.ensures in
    let time = reported_time c.args.reported.now in
    record {
      finds = record {
        lower = omega (arith, was.finds.lower, now.finds.lower);
        found = still_found (Improves c.args.network.now (g.T.TravelTimes.answers c.args.times.now) c.args.query.now.sources time) c.loop-source.lowest _ c.args.above was.finds.found now.finds.found;
        are_supported = now.finds.are_supported;
      };
      passed = still_passed c.sources-source-items.result.now time c.loop-source.source-index c.loop-source.lowest _ (record { node = 0; departure = 0 }) c.loop-source-test.true now.finds.lower was.passed now.passed;
    }
