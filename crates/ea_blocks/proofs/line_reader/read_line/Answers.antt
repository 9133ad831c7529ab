use Rattle.std.proofs.Common.{ap, ◌∙◌, subst}
use Rattle.ea_bytes.specs.Text.{fields_of}
use Rattle.ea_blocks.specs.Borrowed.{texts_now}
use Rattle.ea_blocks.specs.Reading.{GivesLine}
use Rattle.ea_blocks.proofs.line_reader.read_line.Goals as goal

pub returns : goal.returns
returns g c =
    let says = g.R.LineReader.step (g.R.LineReader.state c.args.reader.now) in
    let same = ap (λ fields. says (texts_now fields)) c.as_slice.ensures ∙ ap says c.fields-fields.ensures ∙ g.met.R.LineReader.front _ _ ∙ ap (λ line. says (fields_of line)) c.without_return.ensures in
    subst (λ said. GivesLine (λ _. g.R.LineReader.state c.read_fields.new.self) c.read_fields.result said) same c.read_fields.ensures
