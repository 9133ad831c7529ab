use Rattle.std.proofs.Common.{arith}
use Rattle.std.proofs.Math.Numerals.{add-one}
use Rattle.ea_bytes.proofs.Numbers.{digits_so_far, value_more_exactly}
use Rattle.ea_check.proofs.Leading.{digits_alone}
use Rattle.ea_check.proofs.form.leading_number.only_number.Goals as goal

pub returns : goal.returns
returns c =
    digits_alone c.args.text.now c.loop-b.b-index c.loop-b.value (omega arith) (omega arith) c.loop-b.invariant.digits c.loop-b.invariant.value

pub loop-b-preserved : goal.loop-b-preserved
loop-b-preserved c = record {
  value = value_more_exactly c.args.text.now c.loop-b.b-index c.loop-b.value c.from.result (omega arith) (omega (arith, c.if-not-is_ascii_digit.ensures.cases)) (omega (arith, c.if-not-is_ascii_digit.ensures.cases)) c.from.ensures c.loop-b.invariant.value;
  digits = rw add-one (digits_so_far c.args.text.now c.loop-b.b-index (omega arith) c.loop-b.invariant.digits (cc));
}
