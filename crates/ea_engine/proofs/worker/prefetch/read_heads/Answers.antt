use Rattle.std.proofs.Common.{sym, subst, refl, ◌∙◌}
use Rattle.ea_road.specs.Roads.{Roads, IsNode}
use Rattle.ea_engine.proofs.ProgressLemmas.{OnlySaw-none, OnlySaw-more}
use Rattle.ea_engine.proofs.worker.prefetch.read_heads.Goals as goal

pub leaving-requires : goal.leaving-requires
leaving-requires g c = subst (λ (n : Roads). IsNode n.nodes c.args.node) (sym c.requires.seat.is_ground.named.network_is) c.requires.node

pub read-requires-clause-same_table : goal.read-requires-clause-same_table
read-requires-clause-same_table g c κs outlives = c.loop-arc.invariant.same_table ∙ c.requires.seat.seat_fits

pub loop-arc-init : goal.loop-arc-init
loop-arc-init g c = record { same_table = refl; saw = OnlySaw-none _ }

pub loop-arc-preserved : goal.loop-arc-preserved
loop-arc-preserved g c = record {
  same_table = c.read.ensures.same_table ∙ c.loop-arc.invariant.same_table;
  saw = OnlySaw-more _ _ _ _ c.read.result c.loop-arc.invariant.saw c.read.ensures.gains;
}
