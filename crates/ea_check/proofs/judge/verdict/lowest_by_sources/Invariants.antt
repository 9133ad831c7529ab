use Rattle.std.proofs.Common.{ℕ, ◌<◌, ◌≤◌, get_or}
use Rattle.ea_road.specs.declared.source.Source.{Source}
use Rattle.ea_check.specs.Supported.{FindsLower}
use Rattle.ea_check.specs.Verdicts.{reported_time}
use Rattle.ea_check.proofs.judge.verdict.lowest_by_sources.Given as goal

abbrev pub invariant-loop-source : goal.invariant-loop-source
invariant-loop-source g l = record {
  finds : FindsLower l.network (g.T.TravelTimes.answers l.times) l.query.sources l.reported l.above l.lowest l.marks;
  passed : (place : ℕ) (source : Source) → place < l.source-index → (get_or l.source-items place source).departure < reported_time l.reported (get_or l.source-items place source).node → l.lowest ≤ (get_or l.source-items place source).node;
}
