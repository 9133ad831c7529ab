use Rattle.std.proofs.Common.{◌≡◌, length}
use Rattle.ea_blocks.specs.Pieces.{AreIdleIn}
use Rattle.ea_blocks.proofs.pieces.fill_others.Given as goal

abbrev pub invariant-loop-place : goal.invariant-loop-place
invariant-loop-place g l = record {
  idle : AreIdleIn g.R.BlockReader.IsAside l.lanes;
  same : length l.lanes ≡ length l.fn.lanes;
  kept : g.R.LineReader.state l.reader ≡ g.R.LineReader.state l.fn.reader;
}
