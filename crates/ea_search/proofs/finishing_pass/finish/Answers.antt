use Rattle.ea_road.specs.Labels.{label_of}
use Rattle.ea_road.proofs.Fixed.{asked_labels_are_least, least_is_label}
use Rattle.ea_search.proofs.Boundary.{same_limit, underway_of}
use Rattle.ea_search.proofs.Falls.{FallsBy-labels}
use Rattle.ea_search.proofs.finishing_pass.finish.Goals as goal

pub returns-clause-least : goal.returns-clause-least
returns-clause-least g c = λ node is_node asked.
    asked_labels_are_least c.args.network.now _ _ c.args.query.now (label_of c.finish_noted-todo.new.table.labels.items) c.keeps_limits.ensures c.requires.problem.classed (g.met.T.TravelTimes.fifo c.args.times.now) c.finish_noted-todo.ensures.finished.fixed node is_node asked

pub returns-clause-exact : goal.returns-clause-exact
returns-clause-exact g c = λ node time is_node least low.
    (least_is_label c.args.network.now _ _ c.args.query.now (label_of c.finish_noted-todo.new.table.labels.items) c.keeps_limits.ensures c.requires.problem.classed (g.met.T.TravelTimes.fifo c.args.times.now) c.finish_noted-todo.ensures.finished.fixed node time is_node low least).0

pub finish_noted-todo-requires : goal.finish_noted-todo-requires
finish_noted-todo-requires g c =
    let under = c.requires.underway in
    record {
      problem = c.requires.problem;
      room = c.requires.room;
      underway = underway_of c.args.network.now (g.T.TravelTimes.answers c.args.times.now) _ c.args.query.now c.keeps_limits.ensures c.requires.problem c.args.table.items under.places _ (λ v u k. tt) c.args.todo.waiting under;
    }

pub returns-clause-finishes : goal.returns-clause-finishes
returns-clause-finishes g c =
    let finished = c.finish_noted-todo.ensures.finished in
    let before = c.requires.underway.places in
    record {
      finished = finished;
      walks = c.finish_noted-todo.ensures.walks;
      beyond = rw (← same_limit c.args.network.now (g.T.TravelTimes.answers c.args.times.now) _ c.args.query.now c.keeps_limits.ensures c.requires.problem c.args.table.items before) (FallsBy-labels _ _ _ _ _ before finished.places c.finish_noted-todo.ensures.onward.falls);
    }
