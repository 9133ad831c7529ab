use Rattle.std.proofs.Common.{◌≡◌, ◌+◌, ◌-◌, length}
use Rattle.ea_blocks.specs.Taking.{GoesOnTaking, HasRoom}
use Rattle.ea_blocks.proofs.blocks.Blocks.fill.Given as goal

abbrev pub invariant-loop-self : goal.invariant-loop-self
invariant-loop-self g l = record {
  room : HasRoom l.self;
  left : length l.block.items + l.self.left ≡ length l.fn.block.items + l.fn.self.left;
  more : GoesOnTaking (g.R.Device.seen l.fn.reader) l.fn.self (g.R.Device.seen l.reader) l.self l.fn.block.items l.block.items;
}

abbrev pub decreases-loop-self : goal.decreases-loop-self
decreases-loop-self g l = (l.size - length l.block.items) + (1000 - l.self.interruptions)
