use Rattle.ea_paths.proofs.Answered.{is_answer, stored}
use Rattle.ea_paths.proofs.link_search.unwind.Goals as goal

pub find_links-links-requires-clause-sources : goal.find_links-links-requires-clause-sources
find_links-links-requires-clause-sources g c =
    rw c.sources.ensures.sources (λ source among. (c.requires.problem.sources source among, c.requires.problem.departures source among))

pub new-requires : goal.new-requires
new-requires g c =
    let finished = c.requires.finished in
    let links = rw (c.sources.ensures.sources, c.deref.ensures.value) at c.find_links-links.ensures in
    rw (c.nodes-nodes.ensures.nodes, c.target.ensures.target) (stored c.args.network.now _ _ c.args.query.now c.nodes-nodes.ensures.network c.requires.problem (g.met.T.TravelTimes.fifo c.args.times.now) c.args.finished.table.items finished.places finished.fixed c.find_links-links.result.items links)

pub returns : goal.returns
returns g c =
    let finished = c.requires.finished in
    let links = rw (c.sources.ensures.sources, c.deref.ensures.value) at c.find_links-links.ensures in
    rw (c.new.ensures, c.nodes-nodes.ensures.nodes, c.target.ensures.target) (is_answer c.args.network.now _ _ c.args.query.now c.nodes-nodes.ensures.network c.requires.problem (g.met.T.TravelTimes.fifo c.args.times.now) c.args.finished.table.items finished.places finished.fixed c.find_links-links.result.items links)
