use Rattle.ea_check.proofs.Streaming.{cut_by}
use Rattle.ea_check.proofs.form.report_lines.line_end.Goals as goal

pub returns : goal.returns
returns c = cut_by c.args.text.now c.memchr.result c.memchr.ensures
