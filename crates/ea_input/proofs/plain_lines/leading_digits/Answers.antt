use Rattle.std.proofs.Common.{arith, take}
use Rattle.ea_input.proofs.Digits.{leading, leading_short}
use Rattle.ea_input.proofs.plain_lines.leading_digits.Goals as goal

pub returns-then-end-lt-AT_ONCE : goal.returns-then-end-lt-AT_ONCE
returns-then-end-lt-AT_ONCE c =
    let read = c.read_digits-end.ensures in
    leading_short c.args.text.now 8 c.read_digits-end.result.0 c.read_digits-end.result.1 (leading (take 8 c.args.text.now) c.read_digits-end.result.0 c.read_digits-end.result.1 read.end read.within read.value) (omega arith)
