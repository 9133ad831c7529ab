use Rattle.std.proofs.Common.{◌≤◌, length, take}
use Rattle.ea_blocks.specs.Feeding.{WasGiven}
use Rattle.ea_blocks.specs.Pieces.{AreRead}
use Rattle.ea_blocks.specs.Streams.{EndsLine}
use Rattle.ea_blocks.proofs.feed.Fed.take_all.Given as goal

abbrev pub invariant-loop-index : goal.invariant-loop-index
invariant-loop-index g l = record {
  inside : l.at ≤ length l.text;
  given : WasGiven g.R.LineReader.step g.R.LineReader.state l.fn.self l.self (take l.at l.text);
  ends : EndsLine (take l.at l.text);
  read : AreRead g.R.LineReader.step g.R.LineReader.state g.R.BlockReader.IsAside l.text l.pieces.items;
}

abbrev pub decreases-loop-index : goal.decreases-loop-index
decreases-loop-index g l = length l.pieces.items
