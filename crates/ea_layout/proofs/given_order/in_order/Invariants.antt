use Rattle.std.proofs.Common.{◌≡◌, length}
use Rattle.ea_layout.proofs.given_order.in_order.Given as goal

abbrev pub invariant-loop-node : goal.invariant-loop-node
invariant-loop-node l = length l.order.places ≡ l.network.nodes
