use Rattle.std.proofs.Common.{ℕ, ◌<◌, ◌≤◌}
use Rattle.ea_base.specs.declared.limits.TheConstants.{HORIZON}
use Rattle.ea_road.specs.declared.arc.Arc.{Arc}
use Rattle.ea_road.specs.Roads.{IsArc}
use Rattle.ea_check.specs.Supported.{FindsLower}
use Rattle.ea_check.specs.Verdicts.{reported_time}
use Rattle.ea_check.proofs.judge.verdict.lowest_in_range.Given as goal

abbrev pub invariant-loop-number : goal.invariant-loop-number
invariant-loop-number g l = record {
  finds : FindsLower l.network (g.T.TravelTimes.answers l.times) l.query.sources l.reported l.above l.lowest l.marks;
  passed : (number : ℕ) (arc : Arc) (arrival : ℕ) → l.fn.arcs.from ≤ number → number < l.number → IsArc l.network number arc → reported_time l.reported arc.tail ≤ HORIZON → g.T.TravelTimes.answers l.times arc.class arc.weight (reported_time l.reported arc.tail) arrival → arrival ≤ HORIZON → arrival < reported_time l.reported arc.head → l.lowest ≤ arc.head;
}
