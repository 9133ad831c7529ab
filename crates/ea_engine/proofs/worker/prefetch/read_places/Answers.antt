use Rattle.std.proofs.Common.{refl, ◌∙◌}
use Rattle.ea_engine.proofs.HoldLemmas.{known_at}
use Rattle.ea_engine.proofs.ProgressLemmas.{OnlySaw-none, OnlySaw-more}
use Rattle.ea_engine.proofs.worker.prefetch.read_places.Goals as goal

pub loop-entry-init : goal.loop-entry-init
loop-entry-init g c = record { same_table = refl; saw = OnlySaw-none _ }

pub read-requires-clause-same_table : goal.read-requires-clause-same_table
read-requires-clause-same_table g c κs outlives = c.loop-entry.invariant.same_table ∙ c.requires.may.may_read.seat_fits

pub read-requires-clause-node : goal.read-requires-clause-node
read-requires-clause-node g c κs outlives =
    let ground = c.requires.may.may_read.is_ground in
    known_at g.K.Known.is_known g.K.Posed.problem _ _ c.loop-entry.entry-index _ ground.places_are ground.posed c.requires.may.all_known c.loop-entry-test.true

pub loop-entry-preserved : goal.loop-entry-preserved
loop-entry-preserved g c = record {
  same_table = c.read.ensures.same_table ∙ c.loop-entry.invariant.same_table;
  saw = OnlySaw-more _ _ _ _ c.read.result c.loop-entry.invariant.saw c.read.ensures.gains;
}
