use Rattle.ea_road.specs.Labels.{label_of}
use Rattle.ea_road.proofs.Fixed.{asked_labels_are_least, labels_are_least, least_is_label}
use Rattle.ea_road.proofs.laws.fixed_labels_are_least.Goals as goal

pub returns-clause-asked : goal.returns-clause-asked
returns-clause-asked g c =
    let it = c.requires in
    asked_labels_are_least c.args.network.now _ _ c.args.query.now (label_of c.args.table.now) c.keeps_limits.ensures it.problem.classed (g.met.T.TravelTimes.fifo c.args.times.now) it.fixed

pub returns-clause-up_to_the_target : goal.returns-clause-up_to_the_target
returns-clause-up_to_the_target g c =
    let it = c.requires in
    labels_are_least c.args.network.now _ _ c.args.query.now (label_of c.args.table.now) c.keeps_limits.ensures it.problem.classed (g.met.T.TravelTimes.fifo c.args.times.now) it.fixed

pub returns-clause-exact : goal.returns-clause-exact
returns-clause-exact g c = λ node time is_node least low.
    let it = c.requires in
    (least_is_label c.args.network.now _ _ c.args.query.now (label_of c.args.table.now) c.keeps_limits.ensures it.problem.classed (g.met.T.TravelTimes.fifo c.args.times.now) it.fixed node time is_node low least).0
