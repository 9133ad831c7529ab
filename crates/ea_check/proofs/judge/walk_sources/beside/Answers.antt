use Rattle.std.proofs.Common.{◌≡◌, arith}
use Rattle.ea_check.proofs.Walks.{too_early, too_late, never_later, no_later_than}
use Rattle.ea_check.proofs.judge.walk_sources.beside.Goals.{else-end-node-via-then-end-node+else-arrival-time-2, else-end-node-via-else-end-node}
use Rattle.ea_check.proofs.judge.walk_sources.beside.Goals as goal

pub run_walk-requires-clause-start : goal.run_walk-requires-clause-start
run_walk-requires-clause-start g c = (c.requires.task.starts c.args.source c.requires.source).0

pub run_walk-requires-clause-departure : goal.run_walk-requires-clause-departure
run_walk-requires-clause-departure g c = (c.requires.task.starts c.args.source c.requires.source).1

pub returns-in_default : goal.returns-in_default
returns-in_default g c = λ other order also.
    let it = c.requires in
    let here : c.args.source.node ≡ c.args.start = omega (arith, c.if-source-start.false, c.if-source-start-2.false) in
    let there = it.start other.node other.departure also in
    never_later c.args.network.now _ (g.T.TravelTimes.classes c.args.times.now) it.task.network it.task.classed (g.met.T.TravelTimes.fifo c.args.times.now) c.args.source other c.args.start c.args.node c.args.time here there (no_later_than other c.args.source c.args.start order there here) c.in_default.ensures it.time also

pub returns-then-arrival-time : goal.returns-then-arrival-time
returns-then-arrival-time g c = λ other order also.
    let it = c.requires in
    let here : c.args.source.node ≡ c.args.start = omega (arith, c.if-source-start.false, c.if-source-start-2.false) in
    let there = it.start other.node other.departure also in
    too_early c.args.network.now _ (g.T.TravelTimes.classes c.args.times.now) it.task.network it.task.classed (g.met.T.TravelTimes.fifo c.args.times.now) c.args.source other c.args.start c.in-Some.end c.in-Some.arrival c.args.node c.args.time here there (no_later_than c.args.source other c.args.start order here there) c.in-Some.ensures.0 c.in-Some.ensures.1 c.if-arrival-time.true also

pub returns-else-end-node : goal.returns-else-end-node
returns-else-end-node g c = λ other order also.
    let it = c.requires in
    let here : c.args.source.node ≡ c.args.start = omega (arith, c.if-source-start.false, c.if-source-start-2.false) in
    let there = it.start other.node other.departure also in
    too_late c.args.network.now _ (g.T.TravelTimes.classes c.args.times.now) it.task.network it.task.classed (g.met.T.TravelTimes.fifo c.args.times.now) c.args.source other c.args.start c.in-Some.end c.in-Some.arrival c.args.node c.args.time here there (no_later_than other c.args.source c.args.start order there here) c.in-Some.ensures.0 it.time c.if-arrival-time.false (λ ends arrives. elim c.else-end-node.branch [
      | else-end-node-via-then-end-node+else-arrival-time-2 w ↦ w.if-arrival-time-2.false arrives
      | else-end-node-via-else-end-node w ↦ w.if-end-node.false ends
    ]) also
