use Rattle.std.proofs.Common.{◌≡◌, ◌≤◌, ◌+◌, drop, take, length}
use Rattle.ea_road.specs.Labels.{label_of}
use Rattle.ea_road.specs.Roads.{leaving}
use Rattle.ea_rank.specs.Courses.{Scans}
use Rattle.ea_rank.specs.Runs.{weighs, IsOnCourse}
use Rattle.ea_rank.specs.States.{state_of}
use Rattle.ea_rank.specs.Tallies.{added}
use Rattle.ea_rank.proofs.turns.scan.Given as goal

-- the arcs so far were relaxed
abbrev pub invariant-loop-place : goal.invariant-loop-place
invariant-loop-place g l = record {
  underway : IsOnCourse l.network (g.T.TravelTimes.answers l.times) l.query.sources l.query.sources (drop l.place (leaving l.network l.node)) (state_of l.run);
  label : label_of l.run.labels.items l.node ≡ l.departure;
  heaps : length l.run.heaps ≡ length l.initial.run.heaps;
  less : added l.run.labels.items + weighs (λ e. 1) l.run.heaps ≤ added l.initial.run.labels.items + weighs (λ e. 1) l.initial.run.heaps;
  course : Scans l.network (g.T.TravelTimes.answers l.times) l.departure (take l.place (leaving l.network l.node)) (g.R.Rng.stream l.fn.rng) (state_of l.fn.run) (g.R.Rng.stream l.rng) (state_of l.run);
}
