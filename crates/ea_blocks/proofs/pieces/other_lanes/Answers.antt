use Rattle.std.proofs.Common.{[], ◌∷◌, subst, sym}
use Rattle.ea_blocks.specs.Pieces.{AreIdleIn, IsIdle}
use Rattle.ea_blocks.proofs.Rows.{each_appended, each_one}
use Rattle.ea_blocks.proofs.pieces.other_lanes.Goals as goal

pub loop-preserved : goal.loop-preserved
loop-preserved g c =
    let lane = c.idle_lane.result in
    let P = IsIdle g.R.BlockReader.IsAside in
    subst (AreIdleIn g.R.BlockReader.IsAside) (sym c.in_ok-push.ensures.items)
    (each_appended P c.loop.others.items (lane ∷ []) c.loop.invariant (each_one P lane c.idle_lane.ensures))
