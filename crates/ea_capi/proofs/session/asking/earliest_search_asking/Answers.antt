use Rattle.ea_capi.specs.Calls.{from_starts}
use Rattle.ea_capi.proofs.QueryingAt.{carried}
use Rattle.ea_capi.proofs.session.asking.earliest_search_asking.Goals as goal

pub returns : goal.returns
returns c =
    carried c.args.nodes.now c.args.departures.now c.args.asked.now (from_starts c.args.nodes.now c.args.departures.now)
    c.args.search.now.value c.fill.new.self.value c.in-Some.content c.asked_of-content.result.0 c.asked_of-content.result.1 c.in-Some.ensures.old c.fill.ensures c.asked_of-content.ensures
