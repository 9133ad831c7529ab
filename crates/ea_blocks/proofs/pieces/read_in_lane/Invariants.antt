use Rattle.ea_blocks.specs.Pieces.{IsLaneOn}
use Rattle.ea_blocks.proofs.pieces.read_in_lane.Given as goal

abbrev pub invariant-loop : goal.invariant-loop
invariant-loop g l = IsLaneOn g.R.LineReader.step g.R.LineReader.state g.R.BlockReader.IsAside l.text l.lane
