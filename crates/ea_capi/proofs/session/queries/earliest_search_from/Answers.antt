use Rattle.ea_capi.specs.Calls.{AreGoodStarts, IsDoneOrScarce, from_starts}
use Rattle.ea_capi.proofs.Querying.{carried}
use Rattle.ea_capi.proofs.session.queries.earliest_search_from.Goals as goal

pub returns : goal.returns
returns c =
    carried (AreGoodStarts c.args.nodes.now c.args.departures.now) IsDoneOrScarce (from_starts c.args.nodes.now c.args.departures.now)
    c.args.search.now.value c.fill.new.self.value c.in-Some.content c.starts_of-content.result.0 c.starts_of-content.result.1 c.in-Some.ensures.old c.fill.ensures c.starts_of-content.ensures
