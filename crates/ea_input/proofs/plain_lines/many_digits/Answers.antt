use Rattle.ea_input.proofs.Digits.{leading}
use Rattle.ea_input.proofs.plain_lines.many_digits.Goals as goal

pub returns : goal.returns
returns c =
    let read = c.read_digits.ensures in
    leading c.args.text.now c.read_digits.result.0 c.read_digits.result.1 read.end read.within read.value
