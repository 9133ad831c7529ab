use Rattle.ea_engine.specs.Reads.{OnlyRead}
use Rattle.ea_engine.proofs.worker.prefetch.read_places.Given as goal

abbrev pub invariant-loop-entry : goal.invariant-loop-entry
invariant-loop-entry g l = OnlyRead l.fn.seat l.seat
