use Rattle.std.proofs.Common.{◌≡◌, ◌≤◌, [], take, length}
use Rattle.ea_rank.specs.Courses.{Sows}
use Rattle.ea_rank.specs.Runs.{IsOnCourse}
use Rattle.ea_rank.specs.States.{state_of}
use Rattle.ea_rank.proofs.turns.sow.Given as goal

-- right for the sources so far
abbrev pub invariant-loop-source : goal.invariant-loop-source
invariant-loop-source g l = record {
  underway : IsOnCourse l.network (g.T.TravelTimes.answers l.times) l.query.sources (take l.source-index l.source-items) [] (state_of l.run);
  heaps : length l.run.heaps ≡ length l.initial.run.heaps;
  course : Sows (take l.source-index l.source-items) (state_of l.fn.run) l.word (state_of l.run);
  few : l.word ≤ l.source-index;
}
