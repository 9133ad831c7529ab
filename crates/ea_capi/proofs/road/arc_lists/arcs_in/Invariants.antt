use Rattle.std.proofs.Common.{◌≡◌}
use Rattle.ea_capi.specs.Lists.{arc_lists, arcs_to}
use Rattle.ea_capi.proofs.road.arc_lists.arcs_in.Given as goal

abbrev pub invariant-loop-i : goal.invariant-loop-i
invariant-loop-i l = l.arcs.items ≡ arcs_to l.i (arc_lists l.lists)
