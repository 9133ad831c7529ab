use Rattle.std.proofs.Common.{rules}
use Rattle.ea_labels.proofs.Moves.{join_allowed, count_allowed}
use Rattle.ea_labels.proofs.labels.Labels.join.Goals as goal

pub join_seat-requires : goal.join_seat-requires
join_seat-requires g c = (search rules, search rules, search rules, search rules, join_allowed g.K.Known.is_known _ _ _ _ _ (search rules) (search rules))

pub load-requires : goal.load-requires
load-requires g c = (search rules, search rules, count_allowed g.K.Known.is_known _ _ _ _)
