use Rattle.ea_goal.specs.Visits.{KeepsReached}
use Rattle.ea_asked.specs.Seeking.{ScansToFor}
use Rattle.ea_asked.proofs.search.Underway.scan.Given as goal

-- the arcs so far were left
abbrev pub invariant-loop-place : goal.invariant-loop-place
invariant-loop-place g l = record {
  reached : KeepsReached l.initial.self.table l.self.table;
  scans : ScansToFor l.network (g.T.TravelTimes.answers l.times) l.initial.self.table.labels.items l.initial.self.frontier l.self.table.labels.items l.self.frontier l.node l.departure l.arcs l.place;
}
