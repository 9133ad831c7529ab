use Rattle.std.proofs.Common.{◌≡◌, ◌≤◌, ◌+◌, ◌||◌, drop}
use Rattle.ea_check.specs.Counted.{ends_blank, has_other, starts}
use Rattle.ea_check.proofs.form.number_count.found_in.Given as goal

-- The counts so far and those of the bytes that are left give the piece's.
abbrev pub invariant-loop-b : goal.invariant-loop-b
invariant-loop-b l = record {
  few : l.starts ≤ l.b-index;
  starts : l.starts + starts l.blank (drop l.b-index l.piece) ≡ starts l.before l.piece;
  other : (l.other || has_other (drop l.b-index l.piece)) ≡ has_other l.piece;
  blank : ends_blank l.blank (drop l.b-index l.piece) ≡ ends_blank l.before l.piece;
}
