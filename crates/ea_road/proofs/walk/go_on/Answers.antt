use Rattle.std.proofs.Common.{◌≡◌, refl, arith}
use Rattle.ea_road.proofs.Arcs.{is_question, one_arc}
use Rattle.ea_road.proofs.WalkLaws.{same_answer}
use Rattle.ea_road.proofs.walk.go_on.Goals as goal

pub arrive-arrival-requires : goal.arrive-arrival-requires
arrive-arrival-requires g c =
    let it = c.requires in
    rw c.from.ensures (is_question c.args.network.now (g.T.TravelTimes.classes c.args.times.now) c.args.number c.args.time c.arc-arc.result c.arc-arc.ensures.network it.classes c.arc-arc.ensures.arc it.time)

pub returns-then-arrival-gt-HORIZON-clause-outcome : goal.returns-then-arrival-gt-HORIZON-clause-outcome
returns-then-arrival-gt-HORIZON-clause-outcome g c =
    let it = c.requires in
    let roads = c.args.network.now in
    let arc = c.arc-arc.ensures.arc in
    let answer = rw c.from.ensures at c.arrive-arrival.ensures in
    λ head arrival goes.
    let same : c.arrive-arrival.result ≡ arrival = same_answer roads _ (g.T.TravelTimes.classes c.args.times.now) 0 0 c.arc-arc.ensures.network it.classes (g.met.T.TravelTimes.fifo c.args.times.now) c.args.number c.args.time c.args.time c.arrive-arrival.result arrival c.arc-arc.result goes.arc (one_arc roads c.args.number _ _ arc goes.is_arc) refl it.time arc answer goes.answer in
    omega arith
