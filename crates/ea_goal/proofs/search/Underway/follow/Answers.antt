use Rattle.std.proofs.Common.{arith, ◌-◌}
use Rattle.ea_hierarchy.proofs.Finding.{read_at}
use Rattle.ea_road.proofs.Arcs.{is_question}
use Rattle.ea_goal.specs.Potentials.{potential_of}
use Rattle.ea_goal.proofs.Scanning.{follows_late, follows_offered, follows_reached}
use Rattle.ea_goal.proofs.search.Underway.follow.Goals as goal

pub arrive-arrival-requires : goal.arrive-arrival-requires
arrive-arrival-requires g c =
    rw c.from.ensures (is_question c.args.network.now (g.T.TravelTimes.classes c.args.times.now) c.requires.arc.0 c.args.departure c.args.arc c.keeps_limits.ensures c.requires.classes c.requires.arc.1 c.requires.departure)

pub returns-then-index-departure-clause-follows : goal.returns-then-index-departure-clause-follows
returns-then-index-departure-clause-follows g c =
    let arc = c.args.arc in
    let table = c.args.self.now.table.labels.items in
    let fifo = g.met.T.TravelTimes.fifo c.args.times.now in
    let head = (c.keeps_limits.ensures.each_fits c.requires.arc.0 arc c.requires.arc.1).head in
    let at = read_at table (arc.head - 1) c.index.result.now (omega (arith, head.from_one, head.to_last, c.requires.table)) c.index.ensures in
    let question = is_question c.args.network.now (g.T.TravelTimes.classes c.args.times.now) c.requires.arc.0 c.args.departure arc c.keeps_limits.ensures c.requires.classes c.requires.arc.1 c.requires.departure in
    follows_reached (g.T.TravelTimes.answers c.args.times.now) c.args.target (potential_of c.args.prepared.now c.args.self.now.potential) table c.args.self.now.frontier arc c.args.departure (omega (arith, at, c.if-index-departure.true)) (λ arrival is. fifo.not_before arc.class arc.weight c.args.departure arrival question is)

pub returns-then-arrival-gt-HORIZON-clause-follows :
    goal.returns-then-arrival-gt-HORIZON-clause-follows
returns-then-arrival-gt-HORIZON-clause-follows g c =
    let arc = c.args.arc in
    let answers = g.T.TravelTimes.answers c.args.times.now in
    let fifo = g.met.T.TravelTimes.fifo c.args.times.now in
    let question = is_question c.args.network.now (g.T.TravelTimes.classes c.args.times.now) c.requires.arc.0 c.args.departure arc c.keeps_limits.ensures c.requires.classes c.requires.arc.1 c.requires.departure in
    let answer = rw c.from.ensures at c.arrive-arrival.ensures in
    follows_late answers c.args.target (potential_of c.args.prepared.now c.args.self.now.potential) c.args.self.now.table.labels.items c.args.self.now.frontier arc c.args.departure c.arrive-arrival.result answer (λ other is. fifo.in_order arc.class arc.weight c.args.departure c.args.departure c.arrive-arrival.result other question question answer is (omega arith)) c.if-arrival-gt-HORIZON.true

pub returns-clause-follows : goal.returns-clause-follows
returns-clause-follows g c =
    let arc = c.args.arc in
    let answers = g.T.TravelTimes.answers c.args.times.now in
    let fifo = g.met.T.TravelTimes.fifo c.args.times.now in
    let question = is_question c.args.network.now (g.T.TravelTimes.classes c.args.times.now) c.requires.arc.0 c.args.departure arc c.keeps_limits.ensures c.requires.classes c.requires.arc.1 c.requires.departure in
    let answer = rw c.from.ensures at c.arrive-arrival.ensures in
    follows_offered answers c.args.target (potential_of c.args.prepared.now c.args.self.now.potential) c.args.self.now.table.labels.items c.args.self.now.frontier arc c.args.departure c.arrive-arrival.result answer (λ other is. fifo.in_order arc.class arc.weight c.args.departure c.args.departure c.arrive-arrival.result other question question answer is (omega arith)) c.offer.new.self.table.labels.items c.offer.new.self.frontier c.if-arrival-gt-HORIZON.false c.in_ok-offer.ensures.offers
