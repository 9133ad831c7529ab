use Rattle.std.proofs.Common.{◌≡◌, ◌≤◌, length, map, take, vec_capacity}
use Rattle.ea_road.proofs.ArcLists.{class_in}
use Rattle.ea_road.proofs.arc_list.classes_in.Given as goal

abbrev pub invariant-loop-arc : goal.invariant-loop-arc
invariant-loop-arc l = record {
  classes : l.classes.items ≡ map class_in (take l.arc-index l.arcs);
  room : length l.arcs ≤ vec_capacity l.classes;
}
