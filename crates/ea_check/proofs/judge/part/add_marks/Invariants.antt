use Rattle.std.proofs.Common.{◌≡◌, ◌⊎◌, ℕ, true, false, get_or}
use Rattle.ea_check.proofs.judge.part.add_marks.Given as goal

abbrev pub invariant-loop-place : goal.invariant-loop-place
invariant-loop-place l = record {
  only : (at : ℕ) → get_or l.marks at false ≡ true → (get_or l.fn.marks at false ≡ true) ⊎ (get_or l.more at false ≡ true);
}
