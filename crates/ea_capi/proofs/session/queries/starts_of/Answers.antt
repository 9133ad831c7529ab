use Rattle.ea_capi.specs.Calls.{AreGoodStarts, IsDoneOrScarce, from_starts}
use Rattle.ea_capi.proofs.Querying.{queried}
use Rattle.ea_capi.proofs.session.queries.starts_of.Goals as goal

pub returns-in-Search : goal.returns-in-Search
returns-in-Search c =
    let it = c.find_starts-session in
    queried (AreGoodStarts c.args.nodes.now c.args.departures.now) IsDoneOrScarce (from_starts c.args.nodes.now c.args.departures.now)
    c.args.content c.in-Search.session it.result.0 it.result.1 c.in-Search.is it.ensures.found it.ensures.refused it.ensures.good
