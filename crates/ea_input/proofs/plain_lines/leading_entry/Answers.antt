use Rattle.std.proofs.Common.{refl}
use Rattle.ea_input.proofs.Ahead.{pairs_then, starts_by}
use Rattle.ea_input.proofs.plain_lines.leading_entry.Goals as goal

pub returns : goal.returns
returns c =
    pairs_then 116 c.args.text.now c.in-Some.rest.now c.leading_two.result refl refl refl
    (starts_by 116 c.args.text.now c.in-Some.rest.now c.as_slice.result.now c.as_slice.ensures c.in-Some.ensures.cases.0 c.in-Some.ensures.cases.1) c.leading_two.ensures
