use Rattle.std.proofs.Common.{ℕ, ◌≤◌}
use Rattle.ea_road.specs.Roads.{IsArc}
use Rattle.ea_road.specs.declared.arc.Arc.{Arc}
use Rattle.ea_hierarchy.specs.Growth.{IsJoined}
use Rattle.ea_hierarchy.proofs.joined.are_joined.Given as goal

-- the arcs before this place are joined
abbrev pub invariant-loop-place : goal.invariant-loop-place
invariant-loop-place l = (number : ℕ) (arc : Arc) → number ≤ l.place → IsArc l.network number arc → IsJoined l.ranks l.upward.firsts.items l.upward.heads.items arc
