use Rattle.std.proofs.Common.{ℕ, ◌⊎◌, ◌-◌, ◌<◌, ◌≤◌, length, get_or}
use Rattle.ea_road.specs.declared.source.Source.{Source}
use Rattle.ea_road.specs.Arrivals.{Arrives}
use Rattle.ea_check.proofs.judge.walk_sources.attains.Given as goal

-- No source before the first half attains the time, and none from the end of the second half on.
abbrev pub invariant-halves : goal.invariant-halves
invariant-halves g l = record {
  low : l.low ≤ l.high;
  high : l.high ≤ length l.ordered;
  none : (place : ℕ) (source : Source) → (place < l.low) ⊎ (l.high ≤ place) → place < length l.ordered → Arrives l.network (g.T.TravelTimes.answers l.times) (get_or {A = Source} l.ordered place source).node (get_or {A = Source} l.ordered place source).departure l.arcs l.node l.time → ⊥;
}

abbrev pub decreases-halves : goal.decreases-halves
decreases-halves g l = l.high - l.low
