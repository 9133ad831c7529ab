use Rattle.ea_capi.proofs.Starting.{starts_next}
use Rattle.ea_capi.proofs.session.queries.sources_of.Goals as goal

pub loop-i-preserved : goal.loop-i-preserved
loop-i-preserved c =
    let next = starts_next c.loop-i.i c.args.nodes.now c.args.departures.now c.requires c.loop-i-test.true in
    let pushed = c.in_ok-push.ensures.items in
    let front = c.loop-i.invariant in
    cc
