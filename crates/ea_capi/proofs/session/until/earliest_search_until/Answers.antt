use Rattle.std.specs.Prelude.{None}
use Rattle.ea_capi.specs.Calls.{IsDoneOrScarce}
use Rattle.ea_capi.specs.Latest.{stops}
use Rattle.ea_capi.specs.LatestCalls.{AreGoodStops}
use Rattle.ea_capi.proofs.QueryingUntil.{carried}
use Rattle.ea_capi.proofs.session.until.earliest_search_until.Goals as goal

pub returns : goal.returns
returns c =
    carried (AreGoodStops c.args.nodes.now c.args.times.now) IsDoneOrScarce (stops c.args.nodes.now c.args.times.now) None
    c.args.search.now.value c.fill.new.self.value c.in-Some.content c.until_of-content.result.0 c.until_of-content.result.1 c.in-Some.ensures.old c.fill.ensures c.until_of-content.ensures
