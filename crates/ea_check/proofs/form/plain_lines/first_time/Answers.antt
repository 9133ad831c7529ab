use Rattle.std.proofs.Common.{refl}
use Rattle.ea_check.proofs.Runs.{takes_time}
use Rattle.ea_check.proofs.form.plain_lines.first_time.Goals as goal

pub returns-in-Some-time_before : goal.returns-in-Some-time_before
returns-in-Some-time_before c =
    takes_time c.args.way c.args.node c.in-Some-number_before.place c.in-Some-time_before.time c.args.text.now c.in-Some.numbers.now c.in-Some-number_before.rest.now c.in-Some-time_before.rest.now _ c.in-Some.ensures c.in-Some-number_before.ensures c.in-Some-time_before.ensures c.if-place-node.false refl
