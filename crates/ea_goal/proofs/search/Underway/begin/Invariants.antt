use Rattle.std.proofs.Common.{ℕ, ◌≡◌}
use Rattle.ea_goal.specs.Potentials.{IsPotentialOver, potential_of}
use Rattle.ea_goal.specs.Seeds.{AreSeeded}
use Rattle.ea_goal.specs.Visits.{KeepsReached}
use Rattle.ea_goal.proofs.search.Underway.begin.Given as goal

abbrev pub invariant-loop-source : goal.invariant-loop-source
invariant-loop-source l = record {
  reached : KeepsReached l.initial.self.table l.self.table;
  over : IsPotentialOver l.prepared l.self.potential;
  same : (other : ℕ) → potential_of l.prepared l.self.potential other ≡ potential_of l.prepared l.initial.self.potential other;
  seeded : AreSeeded l.network.nodes l.sources l.target (potential_of l.prepared l.initial.self.potential) l.self.table.labels.items l.self.frontier l.source-index;
}
