use Rattle.ea_hierarchy.proofs.Consistent.{to_target}
use Rattle.ea_hierarchy.proofs.laws.no_walk_is_faster.Goals as goal

pub returns : goal.returns
returns g c = λ start departure arrival walk arrives within.
    to_target c.args.network.now c.keeps_limits.ensures c.args.prepared.now c.keeps_order.ensures c.requires.prepared.over.nodes c.args.target c.requires.target.from_one c.requires.target.to_last c.args.bounds.now c.requires.bounds (g.T.TravelTimes.answers c.args.times.now) c.requires.prepared start departure arrival walk arrives within
