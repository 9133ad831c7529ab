use Rattle.std.proofs.Common.{◌≡◌, ◌+◌, [], length}
use Rattle.ea_rank.specs.Courses.{Begun}
use Rattle.ea_rank.specs.Runs.{weighs, IsOnCourse}
use Rattle.ea_rank.specs.States.{state_of}
use Rattle.ea_rank.specs.Tallies.{added}
use Rattle.ea_rank.proofs.turns.record_run.Given as goal

abbrev pub invariant-loop-run : goal.invariant-loop-run
invariant-loop-run g l = record {
  underway : IsOnCourse l.network (g.T.TravelTimes.answers l.times) l.query.sources l.query.sources [] (state_of l.run);
  heaps : length l.run.heaps ≡ l.heaps;
  course : Begun l.network (g.T.TravelTimes.answers l.times) l.heaps (g.R.Rng.stream l.fn.rng) l.query.sources (g.R.Rng.stream l.rng) (state_of l.run);
}

-- each turn takes an entry, and each lowering takes at least one from the sum and adds one entry
abbrev pub decreases-loop-run : goal.decreases-loop-run
decreases-loop-run g l = added l.run.labels.items + weighs (λ e. 1) l.run.heaps
