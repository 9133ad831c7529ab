use Rattle.std.proofs.Common.{◌+◌, ◌≤◌, arith, sym, subst}
use Rattle.ea_road.specs.Roads.{IsNode}
use Rattle.ea_check.proofs.Judged.{first_fault_least, improved_node, lowest_improves}
use Rattle.ea_check.proofs.judge.verdict.first_not_least.Goals as goal

pub line-requires : goal.line-requires
line-requires g c =
    let lowest = c.lowest_by_arcs-lowest.result in
    let improves = lowest_improves c.args.network.now _ (g.T.TravelTimes.classes c.args.times.now) c.args.query.now.sources c.args.reported.now c.requires.problem.task (g.met.T.TravelTimes.fifo c.args.times.now) c.requires.problem.formed lowest c.lowest_by_sources-by_sources.result (c.nodes-above.result + 1) c.lowest_by_arcs-lowest.ensures.finds.found c.lowest_by_sources-by_sources.ensures.finds.found c.if-lowest-above.false in
    subst (λ n. IsNode n lowest) (sym c.requires.problem.formed.each_node) (improved_node c.args.network.now _ (g.T.TravelTimes.classes c.args.times.now) c.args.query.now.sources c.args.reported.now c.requires.problem.task (g.met.T.TravelTimes.fifo c.args.times.now) c.requires.problem.formed lowest improves)

pub returns-else-lowest-above-clause-least : goal.returns-else-lowest-above-clause-least
returns-else-lowest-above-clause-least g c =
    let lowest = c.lowest_by_arcs-lowest.result in
    let low : lowest ≤ c.lowest_by_sources-by_sources.result = c.lowest_by_arcs-lowest.ensures.finds.lower in
    let improves = lowest_improves c.args.network.now _ (g.T.TravelTimes.classes c.args.times.now) c.args.query.now.sources c.args.reported.now c.requires.problem.task (g.met.T.TravelTimes.fifo c.args.times.now) c.requires.problem.formed lowest c.lowest_by_sources-by_sources.result (c.nodes-above.result + 1) c.lowest_by_arcs-lowest.ensures.finds.found c.lowest_by_sources-by_sources.ensures.finds.found c.if-lowest-above.false in
    first_fault_least c.args.network.now _ (g.T.TravelTimes.classes c.args.times.now) c.args.query.now.sources c.args.reported.now c.requires.problem.task (g.met.T.TravelTimes.fifo c.args.times.now) c.requires.problem.formed lowest c.line.result (improved_node c.args.network.now _ (g.T.TravelTimes.classes c.args.times.now) c.args.query.now.sources c.args.reported.now c.requires.problem.task (g.met.T.TravelTimes.fifo c.args.times.now) c.requires.problem.formed lowest improves) c.line.ensures improves (λ source among late. let bound = c.lowest_by_sources-by_sources.ensures.passed source among late in omega arith) c.lowest_by_arcs-lowest.ensures.passed
