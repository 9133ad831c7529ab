use Rattle.ea_check.proofs.Passed.{passed_push}
use Rattle.ea_check.proofs.judge.canonical_walk.make_places.Goals as goal

pub loop-nodes-preserved : goal.loop-nodes-preserved
loop-nodes-preserved c = λ links arcs known passed. passed_push links arcs c.loop-nodes.nodes.items c.push.new.self.items known c.in_ok-push.ensures.items (c.loop-nodes.invariant links arcs known passed)
