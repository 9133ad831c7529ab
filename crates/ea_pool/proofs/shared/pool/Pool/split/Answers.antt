use Rattle.std.proofs.Common.{rules}
use Rattle.ea_pool.proofs.Moves.{splits}
use Rattle.ea_pool.proofs.shared.pool.Pool.split.Goals as goal

pub split_seat-other-requires : goal.split_seat-other-requires
split_seat-other-requires g c = (search rules, search rules, splits _ _ _ _ _ (search rules))
