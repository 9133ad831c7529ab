use Rattle.ea_report.proofs.Following.{IsGoingBack}
use Rattle.ea_report.proofs.walk_texts.go_back.Given as goal

abbrev pub invariant-back : goal.invariant-back
invariant-back l = IsGoingBack l.links l.fn.nodes.items l.nodes.items l.left l.at l.node

abbrev pub decreases-back : goal.decreases-back
decreases-back l = l.left
