use Rattle.std.proofs.Common.{◌≡◌}
use Rattle.std.specs.Prelude.{vec_len}
use Rattle.earliest.specs.Workers.{AreAtHome}
use Rattle.earliest.proofs.solver_choice.homing_generators.Given as goal

abbrev pub invariant-loop-i : goal.invariant-loop-i
invariant-loop-i l = (vec_len l.rngs ≡ l.i) × AreAtHome l.seed l.settings l.rngs.items
