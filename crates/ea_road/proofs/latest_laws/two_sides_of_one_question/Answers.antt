use Rattle.ea_road.proofs.TwoSides.{back, forth, times_back, times_forth}
use Rattle.ea_road.proofs.latest_laws.two_sides_of_one_question.Goals as goal

pub returns-clause-times : goal.returns-clause-times
returns-clause-times g c =
    let it = c.requires in
    let fifo = g.met.T.TravelTimes.fifo c.args.times.now in (
      times_forth c.args.network.now _ _ c.args.source c.args.target c.keeps_limits.ensures it.classes fifo it.source.1 it.target.1 it.source.0 it.target.0,
      times_back c.args.network.now _ _ c.args.source c.args.target c.keeps_limits.ensures it.classes fifo it.source.1 it.target.1 it.source.0 it.target.0,
    )

pub returns-clause-answers : goal.returns-clause-answers
returns-clause-answers g c =
    let it = c.requires in
    let fifo = g.met.T.TravelTimes.fifo c.args.times.now in
    λ arrival departure least latest. (
      forth c.args.network.now _ _ c.args.source c.args.target c.keeps_limits.ensures it.classes fifo it.source.1 it.target.1 arrival departure least latest,
      back c.args.network.now _ _ c.args.source c.args.target c.keeps_limits.ensures it.classes fifo it.source.1 it.target.1 arrival departure least latest,
    )
