use Rattle.std.proofs.Common.{arith}
use Rattle.std.proofs.Math.Numerals.{add-one}
use Rattle.ea_bytes.proofs.Numbers.{digits_so_far, value_more_exactly}
use Rattle.ea_check.proofs.Runs.{number_then}
use Rattle.ea_check.proofs.form.plain_lines.number_before.Goals as goal

pub returns-then-not-is_ascii_digit : goal.returns-then-not-is_ascii_digit
returns-then-not-is_ascii_digit c =
    number_then c.args.text.now c.args.stop c.loop-i.i c.loop-i.value (omega arith) (omega arith) (omega arith) c.loop-i.invariant.digits c.loop-i.invariant.value

pub loop-i-preserved : goal.loop-i-preserved
loop-i-preserved c = record {
  value = value_more_exactly c.args.text.now c.loop-i.i c.loop-i.value c.from.result (omega arith) (omega (arith, c.if-not-is_ascii_digit.ensures.cases)) (omega (arith, c.if-not-is_ascii_digit.ensures.cases)) c.from.ensures c.loop-i.invariant.value;
  digits = rw add-one (digits_so_far c.args.text.now c.loop-i.i (omega arith) c.loop-i.invariant.digits (cc));
}
