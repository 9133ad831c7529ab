use Rattle.ea_hierarchy.proofs.Listing.{FindsHeads}
use Rattle.std.proofs.Common.{length}
use Rattle.ea_hierarchy.proofs.upward.find_over_children.Given as goal

abbrev pub invariant-loop-number : goal.invariant-loop-number
invariant-loop-number l =
    FindsHeads (length l.growing.children.newest.items) l.growing.upward.firsts.items l.growing.upward.heads.items l.growing.upward.parents.items l.growing.children.earlier.items l.initial.found.items l.found.items l.rank l.number

abbrev pub decreases-loop-number : goal.decreases-loop-number
decreases-loop-number l = l.number
