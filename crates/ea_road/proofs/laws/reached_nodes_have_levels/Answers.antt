use Rattle.ea_road.specs.Labels.{label_of}
use Rattle.ea_road.proofs.Walked.{least_level}
use Rattle.ea_road.proofs.laws.reached_nodes_have_levels.Goals as goal

pub returns : goal.returns
returns g c =
    let it = c.requires in
    λ node time is_node least low. least_level c.args.network.now _ _ c.args.query.now (label_of c.args.table.now) c.keeps_limits.ensures it.problem (g.met.T.TravelTimes.fifo c.args.times.now) it.fixed node time is_node least low
