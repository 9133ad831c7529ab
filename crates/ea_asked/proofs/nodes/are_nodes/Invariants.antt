use Rattle.std.proofs.Common.{ℕ, ◌<◌, get_or}
use Rattle.ea_road.specs.Roads.{IsNode}
use Rattle.ea_asked.proofs.nodes.are_nodes.Given as goal

-- those so far are nodes
abbrev pub invariant-loop-node : goal.invariant-loop-node
invariant-loop-node l = (place none : ℕ) → place < l.node-index → IsNode l.nodes (get_or l.asked place none)
