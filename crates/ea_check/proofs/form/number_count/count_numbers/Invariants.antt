use Rattle.std.proofs.Common.{◌≡◌, ◌≤◌, ◌+◌, ◌||◌, length, true}
use Rattle.ea_check.specs.Counted.{has_other, starts}
use Rattle.ea_check.proofs.form.number_count.count_numbers.Given as goal

-- The counts so far and those of the bytes that are left give the text's.
abbrev pub invariant-loop-rest : goal.invariant-loop-rest
invariant-loop-rest l = record {
  few : l.count + length l.rest ≤ length l.text;
  starts : l.count + starts l.blank l.rest ≡ starts true l.text;
  other : (l.other || has_other l.rest) ≡ has_other l.text;
}

abbrev pub decreases-loop-rest : goal.decreases-loop-rest
decreases-loop-rest l = length l.rest
