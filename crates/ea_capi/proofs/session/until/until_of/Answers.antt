use Rattle.std.specs.Prelude.{None}
use Rattle.ea_capi.specs.Calls.{IsDoneOrScarce}
use Rattle.ea_capi.specs.Latest.{stops}
use Rattle.ea_capi.specs.LatestCalls.{AreGoodStops}
use Rattle.ea_capi.proofs.QueryingUntil.{queried}
use Rattle.ea_capi.proofs.session.until.until_of.Goals as goal

pub returns-in-Latest : goal.returns-in-Latest
returns-in-Latest c =
    let it = c.find_stops-search in
    queried (AreGoodStops c.args.nodes.now c.args.times.now) IsDoneOrScarce (stops c.args.nodes.now c.args.times.now) None
    c.args.content c.in-Latest.search it.result.0 it.result.1 c.in-Latest.is it.ensures.found it.ensures.refused it.ensures.good
