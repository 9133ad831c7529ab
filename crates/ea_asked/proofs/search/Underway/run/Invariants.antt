use Rattle.std.proofs.Common.{◌+◌, length}
use Rattle.std.specs.Prelude.{sum}
use Rattle.ea_goal.specs.Visits.{KeepsReached}
use Rattle.ea_asked.specs.Seeking.{IsPassed, LeadsFor}
use Rattle.ea_asked.proofs.search.Underway.run.Given as goal

abbrev pub invariant-loop-entry : goal.invariant-loop-entry
invariant-loop-entry g l = record {
  reached : KeepsReached l.initial.self.table l.self.table;
  leads : LeadsFor l.network (g.T.TravelTimes.answers l.times) l.initial.self.table.labels.items l.initial.self.frontier l.self.table.labels.items l.self.frontier;
  passed : IsPassed l.self.table.labels.items l.asked l.passed;
}

-- a visit takes an entry, and each entry that it adds takes at least one from a label
abbrev pub decreases-loop-entry : goal.decreases-loop-entry
decreases-loop-entry g l = sum l.self.table.labels.items + length l.self.frontier
