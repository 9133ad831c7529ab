use Rattle.std.proofs.Common.{◌≡◌, map, take}
use Rattle.ea_road.specs.Turned.{turned_arc}
use Rattle.ea_road.proofs.turned_arcs.turned_arcs.Given as goal

abbrev pub invariant-loop-place : goal.invariant-loop-place
invariant-loop-place l = l.arcs.items ≡ map turned_arc (take l.place l.list)
