use Rattle.ea_capi.proofs.Stopping.{stops_next}
use Rattle.ea_capi.proofs.session.until.targets_of.Goals as goal

pub loop-i-preserved : goal.loop-i-preserved
loop-i-preserved c =
    let next = stops_next c.loop-i.i c.args.nodes.now c.args.times.now c.requires c.loop-i-test.true in
    let pushed = c.in_ok-push.ensures.items in
    let front = c.loop-i.invariant in
    cc
