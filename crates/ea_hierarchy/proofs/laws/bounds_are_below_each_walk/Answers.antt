use Rattle.ea_hierarchy.proofs.Consistent.{at_target, sums}
use Rattle.ea_hierarchy.proofs.laws.bounds_are_below_each_walk.Goals as goal

pub returns-clause-target : goal.returns-clause-target
returns-clause-target c =
    at_target c.args.network.now c.keeps_limits.ensures c.args.prepared.now c.keeps_order.ensures c.requires.over.nodes c.args.target c.requires.target.from_one c.requires.target.to_last c.args.bounds.now c.requires.bounds

pub returns-clause-walks : goal.returns-clause-walks
returns-clause-walks c = λ node sum walk.
    sums c.args.network.now c.keeps_limits.ensures c.args.prepared.now c.keeps_order.ensures c.requires.over.nodes c.args.target c.requires.target.from_one c.requires.target.to_last c.args.bounds.now c.requires.bounds node sum walk
