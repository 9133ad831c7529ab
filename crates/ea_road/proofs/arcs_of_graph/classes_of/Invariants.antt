use Rattle.std.proofs.Common.{◌≡◌, ◌<◌, ◌+◌, ℕ, length, take, get_or}
use Rattle.ea_road.specs.Assigned.{class_of}
use Rattle.ea_road.proofs.arcs_of_graph.classes_of.Given as goal

-- the classes that were assigned so far
abbrev pub invariant-loop-number : goal.invariant-loop-number
invariant-loop-number l = record {
  lengths : length l.classes.items ≡ l.arcs;
  assigned : (place : ℕ) → place < l.arcs → get_or l.classes.items place 0 ≡ class_of (take l.number-index l.assigned) (place + 1);
}
