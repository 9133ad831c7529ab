use Rattle.std.proofs.Common.{◌≡◌, length}
use Rattle.ea_check.proofs.form.ahead.runs_for.Given as goal

abbrev pub invariant-loop : goal.invariant-loop
invariant-loop l = length l.runs.items ≡ l.counter
