use Rattle.std.proofs.Common.{◌≡◌}
use Rattle.ea_blocks.specs.Pieces.{AreAside}
use Rattle.ea_blocks.proofs.pieces.fill.Given as goal

abbrev pub invariant-loop : goal.invariant-loop
invariant-loop g l = record {
  asides : AreAside g.R.BlockReader.IsAside l.fresh.items;
  kept : g.R.LineReader.state l.reader ≡ g.R.LineReader.state l.fn.reader;
}
