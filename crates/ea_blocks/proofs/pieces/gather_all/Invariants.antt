use Rattle.std.proofs.Common.{◌≡◌, ◌<◌, ◌≤◌, ℕ, get_or, length}
use Rattle.ea_blocks.specs.Pieces.{AreRead, IsIdle, IsLaneOn}
use Rattle.ea_blocks.specs.declared.pieces.Lane.{Lane}
use Rattle.ea_blocks.proofs.pieces.gather_all.Given as goal

abbrev pub invariant-loop-place : goal.invariant-loop-place
invariant-loop-place g l = record {
  idle : (at : ℕ) (d : Lane g.row.R.Denot g.row.R-Text.Denot) → at < l.place → IsIdle g.R.BlockReader.IsAside (get_or l.lanes at d);
  left : (at : ℕ) (d : Lane g.row.R.Denot g.row.R-Text.Denot) → l.place ≤ at → at < length l.lanes → IsLaneOn g.R.LineReader.step g.R.LineReader.state g.R.BlockReader.IsAside l.text (get_or l.lanes at d);
  same : length l.lanes ≡ length l.fn.lanes;
  read : AreRead g.R.LineReader.step g.R.LineReader.state g.R.BlockReader.IsAside l.text l.pieces.items;
}
