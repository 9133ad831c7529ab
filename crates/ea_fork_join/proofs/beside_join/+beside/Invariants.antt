use Prim.Native.Nat.{◌+◌, ◌-◌, ◌*◌}
use Rattle.ea_fork_join.proofs.beside_join.+beside.Given as goal

abbrev pub decreases-parts_beside : goal.decreases-parts_beside
decreases-parts_beside g l = 4 * l.count

abbrev pub decreases-first_beside_rest : goal.decreases-first_beside_rest
decreases-first_beside_rest g l = 4 * (l.of_first.count + l.of_rest.count) - 1

abbrev pub decreases-first_beside_rest-going_on : goal.decreases-first_beside_rest-going_on
decreases-first_beside_rest-going_on g l = 4 * l.left + 1
