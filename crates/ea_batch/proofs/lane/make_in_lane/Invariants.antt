use Rattle.std.proofs.Common.{IfSome}
use Rattle.ea_batch.specs.Solved.{Serves}
use Rattle.ea_batch.proofs.lane.make_in_lane.Given as goal

abbrev pub invariant-loop : goal.invariant-loop
invariant-loop g l = IfSome l.last (Serves l.job.road.now.network l.job.shown.style.walks)
