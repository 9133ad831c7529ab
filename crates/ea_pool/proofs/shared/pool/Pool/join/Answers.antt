use Rattle.std.proofs.Common.{rules}
use Rattle.ea_pool.proofs.Moves.{joins}
use Rattle.ea_pool.proofs.shared.pool.Pool.join.Goals as goal

pub join_seat-requires : goal.join_seat-requires
join_seat-requires g c = (search rules, search rules, search rules, search rules, joins _ _ _ _ _ _ _ (search rules) (search rules) (search rules))
