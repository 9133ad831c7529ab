use Rattle.std.proofs.Common.{◌≡◌}
use Rattle.std.specs.Prelude.{vec_len}
use Rattle.ea_rank_command.specs.Generators.{generators_from}
use Rattle.earliest.proofs.solver_choice.generators.Given as goal

abbrev pub invariant-loop-i : goal.invariant-loop-i
invariant-loop-i l = (vec_len l.rngs ≡ l.i) × (l.rngs.items ≡ generators_from l.seed l.i)
