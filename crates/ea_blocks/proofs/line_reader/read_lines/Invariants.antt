use Rattle.std.proofs.Common.{◌≡◌, ◌≤◌, ◌+◌, length}
use Rattle.ea_blocks.specs.Reading.{lines_after}
use Rattle.ea_bytes.specs.Text.{field_lines}
use Rattle.ea_blocks.proofs.line_reader.read_lines.Given as goal

abbrev pub invariant-loop-rest : goal.invariant-loop-rest
invariant-loop-rest g l = record {
  same : lines_after g.R.LineReader.step l.line (g.R.LineReader.state l.reader) (field_lines l.rest) ≡ lines_after g.R.LineReader.step l.before (g.R.LineReader.state l.fn.reader) (field_lines l.text);
  count : l.line + length (field_lines l.rest) ≡ l.before + length (field_lines l.text);
  fewer : l.line + length l.rest ≤ l.before + length l.text;
}

abbrev pub decreases-loop-rest : goal.decreases-loop-rest
decreases-loop-rest g l = length l.rest
