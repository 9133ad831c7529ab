use Rattle.ea_road.specs.Labels.{label_of}
use Rattle.ea_road.proofs.Canonical.{one_canonical}
use Rattle.ea_road.proofs.Walked.{least_attains, least_walk}
use Rattle.ea_road.proofs.laws.reached_nodes_have_one_canonical_walk.Goals as goal

pub returns-clause-some : goal.returns-clause-some
returns-clause-some g c =
    let it = c.requires in
    λ node time is_node least low. least_walk c.args.network.now _ _ c.args.query.now (label_of c.args.table.now) c.keeps_limits.ensures it.problem (g.met.T.TravelTimes.fifo c.args.times.now) it.fixed node time is_node least low

pub returns-clause-one : goal.returns-clause-one
returns-clause-one g c = λ node walk other this that.
    one_canonical c.args.network.now _ c.args.query.now.sources _ this that

pub returns-clause-attains : goal.returns-clause-attains
returns-clause-attains g c = λ node time walk least canonical.
    least_attains c.args.network.now _ 0 c.args.query.now node time walk least canonical
