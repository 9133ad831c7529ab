use Prim.Native.Nat.{◌+◌, ◌-◌, ◌*◌}
use Rattle.ea_fork_join.proofs.rows.+parts.Given as goal

abbrev pub decreases-parts_from : goal.decreases-parts_from
decreases-parts_from g l = 4 * l.count

abbrev pub decreases-first_and_rest : goal.decreases-first_and_rest
decreases-first_and_rest g l = 4 * (l.of_first.count + l.of_rest.count) - 1

abbrev pub decreases-first_and_rest-starting : goal.decreases-first_and_rest-starting
decreases-first_and_rest-starting g l = 4 * l.one + 1

abbrev pub decreases-first_and_rest-going_on : goal.decreases-first_and_rest-going_on
decreases-first_and_rest-going_on g l = 4 * l.left + 1
