use Rattle.ea_hierarchy.specs.Waiting.{higher_ends, lower_ends}
use Rattle.ea_hierarchy.proofs.Listing.{FindsArcs}
use Rattle.ea_hierarchy.proofs.waiting.find_over_arcs.Given as goal

abbrev pub invariant-loop-number : goal.invariant-loop-number
invariant-loop-number l = FindsArcs l.network.nodes (lower_ends l.ranks l.network.arcs) (higher_ends l.ranks l.network.arcs) l.arcs.earlier.items l.initial.found.items l.found.items l.rank l.number

abbrev pub decreases-loop-number : goal.decreases-loop-number
decreases-loop-number l = l.number
