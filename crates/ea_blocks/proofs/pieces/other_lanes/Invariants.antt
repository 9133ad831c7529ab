use Rattle.ea_blocks.specs.Pieces.{AreIdleIn}
use Rattle.ea_blocks.proofs.pieces.other_lanes.Given as goal

abbrev pub invariant-loop : goal.invariant-loop
invariant-loop g l = AreIdleIn g.R.BlockReader.IsAside l.others.items
