use Rattle.std.proofs.Common.{false}
use Rattle.ea_paths.proofs.Answered.{has_arrivals}
use Rattle.ea_paths.proofs.link_search.without_walks.Goals as goal

pub returns-clause-arrivals : goal.returns-clause-arrivals
returns-clause-arrivals g c =
    let finished = c.requires.finished in
    rw (c.new.ensures, c.nodes-nodes.ensures.nodes, c.target.ensures.target) (has_arrivals c.args.network.now _ _ c.args.query.now c.nodes-nodes.ensures.network c.requires.problem (g.met.T.TravelTimes.fifo c.args.times.now) c.args.finished.table.items finished.places finished.fixed _ false)
