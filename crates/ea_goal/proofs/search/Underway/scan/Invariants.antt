use Rattle.std.proofs.Common.{ℕ, ◌≡◌}
use Rattle.ea_goal.specs.Potentials.{IsPotentialOver, potential_of}
use Rattle.ea_goal.specs.Scans.{ScansTo}
use Rattle.ea_goal.specs.Visits.{KeepsReached}
use Rattle.ea_goal.proofs.search.Underway.scan.Given as goal

abbrev pub invariant-loop-place : goal.invariant-loop-place
invariant-loop-place g l = record {
  reached : KeepsReached l.initial.self.table l.self.table;
  over : IsPotentialOver l.prepared l.self.potential;
  same : (other : ℕ) → potential_of l.prepared l.self.potential other ≡ potential_of l.prepared l.initial.self.potential other;
  scans : ScansTo l.network (g.T.TravelTimes.answers l.times) l.target (potential_of l.prepared l.initial.self.potential) l.initial.self.table.labels.items l.initial.self.frontier l.self.table.labels.items l.self.frontier l.node l.departure l.arcs l.place;
}
