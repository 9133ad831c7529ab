use Rattle.std.proofs.Common.{◌-◌, ◌≤◌, []}
use Rattle.ea_engine.specs.Grounds.{tables_of}
use Rattle.ea_engine.specs.Equipped.{AreHeld}
use Rattle.ea_engine.specs.Seated.{kit_of, kit_with}
use Rattle.ea_engine.proofs.WorkLemmas.{SoFar}
use Rattle.ea_engine.proofs.worker.work_loop.work.Given as goal

abbrev pub invariant-turns : goal.invariant-turns
invariant-turns g l = record {
  held : AreHeld g.K.Known.is_known (tables_of l.ground) l.means l.lists;
  tracer : goal.F-IsAlwaysCallable g l.tracer;
  small : l.number ≤ l.pace.turns;
  so_far : SoFar g.K.Posed.problem (goal.F-step g) (tables_of l.ground).pool.heaps
      (kit_of g.R.Rng.stream l.fn.means [] []) (kit_with g.R.Rng.stream l.means l.lists)
      l.pace l.fn.tracer l.tracer l.counters l.broken l.number l.idle l.ended;
}

abbrev pub decreases-turns : goal.decreases-turns
decreases-turns g l = l.pace.turns - l.number
