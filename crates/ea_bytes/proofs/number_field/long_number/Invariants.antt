use Rattle.std.proofs.Common.{◌≡◌, ◌^◌, min, take, true}
use Rattle.std.specs.Str.{all_ascii_digits}
use Rattle.std.specs.Str.Parse.{digits_value}
use Rattle.ea_bytes.proofs.number_field.long_number.Given as goal

abbrev pub invariant-loop-b : goal.invariant-loop-b
invariant-loop-b l = record {
  value : l.value ≡ min (digits_value 10 (take l.b-index l.field)) (2 ^ 64);
  digits : all_ascii_digits (take l.b-index l.field) ≡ true;
}
