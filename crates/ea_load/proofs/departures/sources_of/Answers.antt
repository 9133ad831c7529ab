use Rattle.ea_load.specs.Starts.{plan_of}
use Rattle.ea_load.proofs.Departing.{sources_next}
use Rattle.ea_load.proofs.departures.sources_of.Goals as goal

pub loop-i-preserved : goal.loop-i-preserved
loop-i-preserved c =
    let next = sources_next (plan_of c.args.schedule) c.loop-i.i c.args.nodes.now c.loop-i-test.true in
    let pushed = c.in_ok-push.ensures.items in
    let front = c.loop-i.invariant in
    cc
