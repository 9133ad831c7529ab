use Rattle.std.proofs.Common.{arith, ◌^◌, ◌∙◌, sym}
use Rattle.std.proofs.Math.Numerals.{add-one}
use Rattle.ea_bytes.proofs.Numbers.{digits_so_far, not_all_digits, no_number, value_more}
use Rattle.ea_bytes.proofs.number_field.long_number.Goals as goal

pub returns-then-not-is_ascii_digit : goal.returns-then-not-is_ascii_digit
returns-then-not-is_ascii_digit c =
    let e = not_all_digits c.args.field.now c.loop-b.b-index (omega arith) (cc) in
    sym (no_number c.args.field.now (2 ^ 64) e)

pub loop-b-preserved : goal.loop-b-preserved
loop-b-preserved c = record {
  value = c.min-value.ensures ∙ value_more c.args.field.now c.loop-b.b-index c.loop-b.value c.from.result (2 ^ 64) (omega arith) (omega (arith, c.if-not-is_ascii_digit.ensures.cases)) (omega (arith, c.if-not-is_ascii_digit.ensures.cases)) c.from.ensures c.loop-b.invariant.value;
  digits = rw add-one (digits_so_far c.args.field.now c.loop-b.b-index (omega arith) c.loop-b.invariant.digits (cc));
}
