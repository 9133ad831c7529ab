use Rattle.std.proofs.Common.{◌≡◌, ◌++◌, drop, map, take}
use Rattle.ea_road.specs.Turned.{turned_raw}
use Rattle.ea_road.proofs.arc_list.turn.Given as goal

-- the arcs before this place are turned, the others are as they were
abbrev pub invariant-loop-arc : goal.invariant-loop-arc
invariant-loop-arc l = l.arcs ≡ map turned_raw (take l.arc-index l.fn.arcs) ++ drop l.arc-index l.fn.arcs
