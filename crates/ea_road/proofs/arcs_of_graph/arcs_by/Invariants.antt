use Rattle.std.proofs.Common.{◌≡◌, ◌≤◌, length, take, vec_capacity}
use Rattle.ea_road.specs.ArcLists.{arcs_beside}
use Rattle.ea_road.proofs.arcs_of_graph.arcs_by.Given as goal

abbrev pub invariant-loop-place : goal.invariant-loop-place
invariant-loop-place l = record {
  arcs : l.arcs.items ≡ take l.place (arcs_beside l.classes.items 0 l.raw);
  room : length l.raw ≤ vec_capacity l.arcs;
}
