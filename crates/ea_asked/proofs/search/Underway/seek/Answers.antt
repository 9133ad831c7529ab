use Rattle.std.proofs.lemmas.List.Elements.{All-contains}
use Rattle.ea_road.specs.Roads.{IsNode}
use Rattle.std.proofs.Common.{arith}
use Rattle.ea_goal.proofs.Reaching.{reached_then}
use Rattle.ea_asked.proofs.Ending.{led_to_each}
use Rattle.ea_asked.proofs.search.Underway.seek.Goals as goal

pub run-requires-clause-opened : goal.run-requires-clause-opened
run-requires-clause-opened g c =
    let seeded = c.in_ok-begin.ensures.done 1 (omega arith) in
    record { are_nodes = seeded.are_nodes; keyed = seeded.keyed }

pub returns : goal.returns
returns g c = record {
  reached = reached_then c.args.self.now.table c.begin.new.self.table c.run.new.self.table c.begin.ensures.reached c.run.ensures.reached;
  done = led_to_each c.args.network.now (g.T.TravelTimes.answers c.args.times.now) (g.T.TravelTimes.classes c.args.times.now) c.keeps_limits.ensures c.requires.classed (g.met.T.TravelTimes.fifo c.args.times.now) c.args.sources.now c.begin.new.self.table.labels.items c.run.new.self.table.labels.items c.args.asked.now c.begin.new.self.frontier c.run.new.self.frontier c.requires.start.starts c.in_ok-begin.ensures.done c.in_ok-run.ensures.done
      (λ node there. All-contains (IsNode c.args.network.now.nodes) c.args.asked.now node c.requires.are_nodes there);
}
