use Rattle.ea_check.proofs.Leading.{arcs_end, arcs_more}
use Rattle.ea_check.proofs.form.walk_arcs.read_arcs.Goals as goal

pub loop-arc-preserved : goal.loop-arc-preserved
loop-arc-preserved c =
    let first = c.in-Some.ensures.first in
    arcs_more _ _ first.0 c.loop-arc.arcs.items c.push.new.self.items _ c.in-Some.arc first.1 first.2 c.in_ok-push.ensures.items c.loop-arc.invariant

pub returns : goal.returns
returns c = arcs_end _ c.loop-arc.arcs.items _ c.in_default.ensures.first c.loop-arc.invariant
