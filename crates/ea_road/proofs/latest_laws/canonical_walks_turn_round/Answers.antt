use Rattle.ea_road.proofs.TurnedLevels.{canonical_in_time, canonical_turns, canonical_turns_back, one_walk_to}
use Rattle.ea_road.proofs.latest_laws.canonical_walks_turn_round.Goals as goal

pub returns-clause-turned : goal.returns-clause-turned
returns-clause-turned g c =
    let fifo = g.met.T.TravelTimes.fifo c.args.times.now in
    λ node walk. (
      canonical_turns c.args.network.now _ _ c.args.targets.now c.keeps_limits.ensures c.requires.classes fifo c.requires.targets node walk,
      canonical_turns_back c.args.network.now _ _ c.args.targets.now c.keeps_limits.ensures c.requires.classes fifo c.requires.targets node walk,
    )

pub returns-clause-one : goal.returns-clause-one
returns-clause-one g c =
    let fifo = g.met.T.TravelTimes.fifo c.args.times.now in
    one_walk_to c.args.network.now _ _ c.args.targets.now c.keeps_limits.ensures c.requires.classes fifo c.requires.targets

pub returns-clause-in_time : goal.returns-clause-in_time
returns-clause-in_time g c =
    let fifo = g.met.T.TravelTimes.fifo c.args.times.now in
    canonical_in_time c.args.network.now _ _ c.args.targets.now c.keeps_limits.ensures c.requires.classes fifo c.requires.targets
