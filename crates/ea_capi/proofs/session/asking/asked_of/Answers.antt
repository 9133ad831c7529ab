use Rattle.ea_capi.specs.Calls.{from_starts}
use Rattle.ea_capi.proofs.QueryingAt.{queried}
use Rattle.ea_capi.proofs.session.asking.asked_of.Goals as goal

pub returns-in-Search : goal.returns-in-Search
returns-in-Search c =
    let it = c.find_asked-session in
    queried c.args.nodes.now c.args.departures.now c.args.list.now (from_starts c.args.nodes.now c.args.departures.now)
    c.args.content c.in-Search.session it.result.0 it.result.1 c.in-Search.is it.ensures.found it.ensures.refused it.ensures.good
