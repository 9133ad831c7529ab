use Rattle.std.proofs.Common.{◌∙◌, ap}
use Rattle.ea_search.specs.Frontiers.{Frontage}
use Rattle.ea_search.specs.Worklist.{Worklist}
use Rattle.ea_search.proofs.Boundary.{public_of, same_limit, underway_of}
use Rattle.ea_search.proofs.Falls.{FallsBy-labels, FallsBy-then, limit_falls}
use Rattle.ea_search.proofs.buckets.ordered_finish.finish_on.Goals as goal

pub over-frontier-requires-clause-entries : goal.over-frontier-requires-clause-entries
over-frontier-requires-clause-entries g c = λ entry is. absurd (c.requires.lists.1 entry is)

pub finish-requires : goal.finish-requires
finish-requires g c =
    let under = c.search_on.ensures.underway in
    let problem = c.requires.can.problem in
    rw c.into_parts-todo.ensures.todo (record {
      problem = problem;
      underway = public_of c.args.network.now (g.T.TravelTimes.answers c.args.times.now) _ c.args.query.now c.keeps_limits.ensures problem _ under.places _ _ under;
      room = c.search_on.ensures.room.nodes ∙ ap (λ (f : Frontage). f.todo.nodes) c.over-frontier.ensures ∙ c.requires.can.room;
    })

pub search_on-requires : goal.search_on-requires
search_on-requires g c =
    let under = c.requires.can.underway in
    let problem = c.requires.can.problem in
    rw c.over-frontier.ensures (record {
      problem = problem;
      room = c.requires.can.room;
      underway = underway_of c.args.network.now (g.T.TravelTimes.answers c.args.times.now) _ c.args.query.now c.keeps_limits.ensures problem c.args.table.items under.places _ (λ v u k. tt) c.args.todo.waiting under;
    })

pub returns : goal.returns
returns g c =
    let places = c.requires.can.underway.places in
    let problem = c.requires.can.problem in
    let after = c.search_on.ensures.underway.places in
    let falls = rw (same_limit c.args.network.now (g.T.TravelTimes.answers c.args.times.now) _ c.args.query.now c.keeps_limits.ensures problem c.args.table.items places) at (FallsBy-labels _ _ _ _ _ places after c.search_on.ensures.beyond) in
    let finishes = c.finish.ensures.finishes in
    record {
      finished = finishes.finished;
      walks = finishes.walks ∙ ap (λ (w : Worklist). w.walks) c.into_parts-todo.ensures.todo ∙ c.search_on.ensures.room.walks ∙ ap (λ (f : Frontage). f.todo.walks) c.over-frontier.ensures;
      beyond = FallsBy-then _ _ _ _ _ _ _ falls finishes.beyond (limit_falls _ _ _ _ _ _ falls problem.target);
    }
