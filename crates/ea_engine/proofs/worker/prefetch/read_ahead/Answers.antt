use Rattle.std.proofs.Common.{refl, ◌∙◌}
use Rattle.ea_engine.proofs.HoldLemmas.{known_at}
use Rattle.ea_engine.proofs.ProgressLemmas.{OnlySaw-then}
use Rattle.ea_engine.proofs.worker.prefetch.read_ahead.Goals as goal

pub read_heads-requires-clause-seat : goal.read_heads-requires-clause-seat
read_heads-requires-clause-seat g c κs outlives = record {
  is_ground = c.requires.may.may_read.is_ground;
  seat_fits = c.loop-entry.invariant.same_table ∙ c.requires.may.may_read.seat_fits;
}

pub read_heads-requires-clause-node : goal.read_heads-requires-clause-node
read_heads-requires-clause-node g c κs outlives =
    known_at g.K.Known.is_known g.K.Posed.problem _ _ c.loop-entry.entry-index _ refl c.requires.may.may_read.is_ground.posed c.requires.may.all_known c.loop-entry-test.true

pub loop-entry-preserved : goal.loop-entry-preserved
loop-entry-preserved g c = record {
  same_table = c.read_heads.ensures.same_table ∙ c.loop-entry.invariant.same_table;
  saw = OnlySaw-then _ _ _ c.loop-entry.invariant.saw c.read_heads.ensures.saw;
}
