use Rattle.std.proofs.Common.{◌≡◌, length}
use Rattle.ea_hierarchy.specs.Waiting.{AreWaiting, lower_ends}
use Rattle.ea_hierarchy.proofs.waiting.arcs_waiting.Given as goal

abbrev pub invariant-loop-place : goal.invariant-loop-place
invariant-loop-place l = record {
  room : length l.waiting.newest.items ≡ l.network.nodes;
  count : length l.waiting.earlier.items ≡ l.place;
  waiting : AreWaiting (lower_ends l.ranks l.network.arcs) l.waiting.newest.items l.waiting.earlier.items;
}
