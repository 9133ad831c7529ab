use Rattle.ea_hierarchy.proofs.Consistent.{along_time}
use Rattle.ea_hierarchy.proofs.laws.bounds_are_consistent.Goals as goal

pub returns : goal.returns
returns g c = λ number departure arrival arc is_arc from within answer some.
    along_time c.args.network.now c.keeps_limits.ensures c.args.prepared.now c.keeps_order.ensures c.requires.prepared.over.nodes c.args.target c.requires.target.from_one c.requires.target.to_last c.args.bounds.now c.requires.bounds (g.T.TravelTimes.answers c.args.times.now) c.requires.prepared number departure arrival arc is_arc from within answer some
