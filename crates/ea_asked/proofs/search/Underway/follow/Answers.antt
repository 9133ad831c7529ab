use Rattle.std.proofs.Common.{arith}
use Rattle.ea_road.proofs.Arcs.{is_question}
use Rattle.ea_goal.proofs.Reaching.{reached_none}
use Rattle.ea_goal.proofs.Scanning.{follows_late, follows_offered}
use Rattle.ea_asked.specs.Open.{no_bound}
use Rattle.ea_asked.proofs.search.Underway.follow.Goals as goal

pub arrive-arrival-requires : goal.arrive-arrival-requires
arrive-arrival-requires g c =
    rw c.from.ensures (is_question c.args.network.now (g.T.TravelTimes.classes c.args.times.now) c.requires.arc.0 c.args.departure c.args.arc c.keeps_limits.ensures c.requires.can.classed c.requires.arc.1 c.requires.departure)

pub returns-then-arrival-gt-HORIZON : goal.returns-then-arrival-gt-HORIZON
returns-then-arrival-gt-HORIZON g c =
    let arc = c.args.arc in
    let answers = g.T.TravelTimes.answers c.args.times.now in
    let fifo = g.met.T.TravelTimes.fifo c.args.times.now in
    let question = is_question c.args.network.now (g.T.TravelTimes.classes c.args.times.now) c.requires.arc.0 c.args.departure arc c.keeps_limits.ensures c.requires.can.classed c.requires.arc.1 c.requires.departure in
    let answer = rw c.from.ensures at c.arrive-arrival.ensures in
    record {
      reached = reached_none c.args.self.now.table;
      done = λ target from. follows_late answers target no_bound c.args.self.now.table.labels.items c.args.self.now.frontier arc c.args.departure c.arrive-arrival.result answer (λ other is. fifo.in_order arc.class arc.weight c.args.departure c.args.departure c.arrive-arrival.result other question question answer is (omega arith)) c.if-arrival-gt-HORIZON.true;
    }

pub returns : goal.returns
returns g c =
    let arc = c.args.arc in
    let answers = g.T.TravelTimes.answers c.args.times.now in
    let fifo = g.met.T.TravelTimes.fifo c.args.times.now in
    let question = is_question c.args.network.now (g.T.TravelTimes.classes c.args.times.now) c.requires.arc.0 c.args.departure arc c.keeps_limits.ensures c.requires.can.classed c.requires.arc.1 c.requires.departure in
    let answer = rw c.from.ensures at c.arrive-arrival.ensures in
    record {
      reached = c.offer.ensures.reached;
      done = λ target from. follows_offered answers target no_bound c.args.self.now.table.labels.items c.args.self.now.frontier arc c.args.departure c.arrive-arrival.result answer (λ other is. fifo.in_order arc.class arc.weight c.args.departure c.args.departure c.arrive-arrival.result other question question answer is (omega arith)) c.offer.new.self.table.labels.items c.offer.new.self.frontier c.if-arrival-gt-HORIZON.false (c.in_ok-offer.ensures.done target from);
    }
