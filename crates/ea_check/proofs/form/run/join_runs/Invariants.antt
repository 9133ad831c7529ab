use Rattle.ea_check.specs.Pieces.{AreIn}
use Rattle.ea_check.proofs.form.run.join_runs.Given as goal

abbrev pub invariant-loop-run : goal.invariant-loop-run
invariant-loop-run l = AreIn l.way l.text l.last l.times.items (record { first = l.before.first; bytes = l.bytes })
