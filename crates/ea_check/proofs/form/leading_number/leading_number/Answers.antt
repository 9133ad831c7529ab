use Rattle.std.proofs.Common.{arith, length-drop, length-take}
use Rattle.std.proofs.Math.Numerals.{add-one}
use Rattle.ea_bytes.proofs.Numbers.{digits_so_far, value_more_exactly}
use Rattle.ea_check.proofs.Leading.{begins_with_number}
use Rattle.ea_check.proofs.form.leading_number.leading_number.Goals as goal

pub returns-then-not-is_ascii_digit-clause-first : goal.returns-then-not-is_ascii_digit-clause-first
returns-then-not-is_ascii_digit-clause-first c =
    begins_with_number c.args.text.now c.loop-i.i c.loop-i.value (omega arith) (omega arith) (cc) c.loop-i.invariant.digits c.loop-i.invariant.value

pub returns-then-not-is_ascii_digit-clause-shorter : goal.returns-then-not-is_ascii_digit-clause-shorter
returns-then-not-is_ascii_digit-clause-shorter c = simp (length-take, length-drop) (omega (arith, c.loop-i-test.true))

pub loop-i-preserved : goal.loop-i-preserved
loop-i-preserved c = record {
  value = value_more_exactly c.args.text.now c.loop-i.i c.loop-i.value c.from.result (omega arith) (omega (arith, c.if-not-is_ascii_digit.ensures.cases)) (omega (arith, c.if-not-is_ascii_digit.ensures.cases)) c.from.ensures c.loop-i.invariant.value;
  digits = rw add-one (digits_so_far c.args.text.now c.loop-i.i (omega arith) c.loop-i.invariant.digits (cc));
}
