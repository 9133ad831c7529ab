use Rattle.std.proofs.Common.{arith}
use Rattle.ea_input.proofs.Digits.{number_read}
use Rattle.ea_input.proofs.plain_lines.leading_number.Goals as goal

pub returns-then-text-end : goal.returns-then-text-end
returns-then-text-end c =
    number_read c.args.text.now c.args.stop c.leading_digits-end.result.0 c.leading_digits-end.result.1 c.leading_digits-end.ensures (omega arith) (omega arith) (omega arith) (omega arith)
