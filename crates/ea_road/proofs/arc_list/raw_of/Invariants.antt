use Rattle.std.proofs.Common.{◌≡◌, ◌≤◌, length, map, take, vec_capacity}
use Rattle.ea_road.specs.ArcLists.{without_class}
use Rattle.ea_road.proofs.arc_list.raw_of.Given as goal

abbrev pub invariant-loop-arc : goal.invariant-loop-arc
invariant-loop-arc l = record {
  raw : l.raw.items ≡ map without_class (take l.arc-index l.arcs);
  room : length l.arcs ≤ vec_capacity l.raw;
}
