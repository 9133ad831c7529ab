use Rattle.std.proofs.Common.{◌≡◌, ◌+◌, ◌++◌, true, if◌then◌else◌}
use Rattle.std.specs.Io.KnownBytes.{IsAtEnd}
use Rattle.ea_blocks.specs.Pieces.{AreIdleIn, AreRead, IsIdle}
use Rattle.ea_blocks.specs.Taking.{HasRoom}
use Rattle.ea_blocks.specs.Streams.{EndsLine, IsReadUpTo}
use Rattle.ea_blocks.proofs.stream.read_device.Given as goal

abbrev pub invariant-loop-ended : goal.invariant-loop-ended
invariant-loop-ended g l = record {
  room : HasRoom l.blocks;
  end : l.ended ≡ true → IsAtEnd (g.D.Device.seen l.device).bytes;
  underway : IsReadUpTo g.R.LineReader.step (g.R.LineReader.state l.fn.start) l.limit (g.D.Device.seen l.fn.device) (g.D.Device.seen l.device)
      (g.R.LineReader.state l.feed.fed.reader) l.feed.fed.lines l.feed.fed.fault l.blocks (l.feed.waiting.items ++ l.block.items);
  ends : EndsLine l.feed.waiting.items;
  read : AreRead g.R.LineReader.step g.R.LineReader.state g.R.BlockReader.IsAside l.feed.waiting.items l.feed.pieces.items;
  idle : IsIdle g.R.BlockReader.IsAside l.feed.lane;
  others : AreIdleIn g.R.BlockReader.IsAside l.others.items;
}

abbrev pub decreases-loop-ended : goal.decreases-loop-ended
decreases-loop-ended g l = l.blocks.left + (if l.ended then 0 else 1)
