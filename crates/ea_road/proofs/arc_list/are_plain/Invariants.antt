use Rattle.std.proofs.Common.{◌≡◌, ℕ, ◌<◌}
use Rattle.std.specs.Prelude.{Some, slice_get}
use Rattle.ea_road.specs.declared.arc.Arc.{Arc}
use Rattle.ea_road.proofs.arc_list.are_plain.Given as goal

abbrev pub invariant-loop-arc : goal.invariant-loop-arc
invariant-loop-arc l = (place : ℕ) (arc : Arc) → place < l.arc-index → slice_get l.arcs place ≡ Some arc → arc.class ≡ 0
