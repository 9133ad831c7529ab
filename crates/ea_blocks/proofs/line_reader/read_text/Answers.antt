use Rattle.ea_bytes.specs.Text.{field_lines}
use Rattle.ea_blocks.proofs.Steps.{ended, ended_badly, stopped}
use Rattle.ea_blocks.proofs.line_reader.read_text.Goals as goal

pub returns-in-Err : goal.returns-in-Err
returns-in-Err g c = stopped g.R.LineReader.step g.R.LineReader.end g.R.LineReader.view (g.R.LineReader.state c.args.start) (field_lines c.args.text.now) c.in-Err.fault c.in-Err.ensures.0

pub returns-in-Ok-finish : goal.returns-in-Ok-finish
returns-in-Ok-finish g c = ended g.R.LineReader.step g.R.LineReader.end g.R.LineReader.view (g.R.LineReader.state c.args.start) (g.R.LineReader.state c.read_lines.new.reader) (field_lines c.args.text.now) c.in-Ok-finish.read c.in-Ok.ensures.0 c.in-Ok-finish.ensures

pub returns-in-Err-finish : goal.returns-in-Err-finish
returns-in-Err-finish g c = rw c.fault_in.ensures (ended_badly g.R.LineReader.step g.R.LineReader.end g.R.LineReader.view (g.R.LineReader.state c.args.start) (g.R.LineReader.state c.read_lines.new.reader) (field_lines c.args.text.now) c.in-Err-finish.kind c.in-Ok.ensures.0 c.in-Err-finish.ensures)
