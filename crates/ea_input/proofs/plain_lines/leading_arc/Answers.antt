use Rattle.ea_input.proofs.Ahead.{arc_then, starts_by}
use Rattle.ea_input.proofs.plain_lines.leading_arc.Goals as goal

pub returns : goal.returns
returns c = arc_then c.args.text.now c.in-Some.rest.now c.in-Some-leading_number.rest.now c.in-Some-leading_number-2.rest.now c.in-Some-leading_number-3.rest.now c.in-Some-leading_number.tail c.in-Some-leading_number-2.head c.in-Some-leading_number-3.weight (starts_by 97 c.args.text.now c.in-Some.rest.now c.as_slice.result.now c.as_slice.ensures c.in-Some.ensures.cases.0 c.in-Some.ensures.cases.1) c.in-Some-leading_number.ensures c.in-Some-leading_number-2.ensures c.in-Some-leading_number-3.ensures
