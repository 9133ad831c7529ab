use Rattle.std.proofs.Common.{◌≡◌, ◌++◌}
use Rattle.ea_check.specs.Runs.{numbers}
use Rattle.ea_check.proofs.form.kept.keep_numbers.Given as goal

abbrev pub invariant-loop-place : goal.invariant-loop-place
invariant-loop-place l = l.lines.items ≡ l.fn.lines.items ++ numbers l.number l.place
