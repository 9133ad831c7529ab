use Rattle.ea_goal.specs.Visits.{KeepsReached}
use Rattle.ea_asked.specs.Seeking.{AreSeededFor}
use Rattle.ea_asked.proofs.search.Underway.begin.Given as goal

-- the sources so far were offered their departures
abbrev pub invariant-loop-source : goal.invariant-loop-source
invariant-loop-source l = record {
  reached : KeepsReached l.initial.self.table l.self.table;
  seeded : AreSeededFor l.network.nodes l.sources l.self.table.labels.items l.self.frontier l.source-index;
}
