use Rattle.ea_engine.specs.Reads.{OnlyRead}
use Rattle.ea_engine.proofs.worker.prefetch.read_heads.Given as goal

abbrev pub invariant-loop-arc : goal.invariant-loop-arc
invariant-loop-arc g l = OnlyRead l.fn.seat l.seat
