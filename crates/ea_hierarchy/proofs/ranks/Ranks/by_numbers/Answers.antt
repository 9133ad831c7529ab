use Rattle.ea_hierarchy.proofs.Ordering.{are_numbers}
use Rattle.ea_hierarchy.proofs.ranks.Ranks.by_numbers.Goals as goal

pub returns-clause-ranks : goal.returns-clause-ranks
returns-clause-ranks c = are_numbers c.args.nodes
