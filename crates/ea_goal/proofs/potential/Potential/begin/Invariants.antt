use Rattle.ea_hierarchy.specs.Bounds.{IsRoomFor}
use Rattle.ea_goal.proofs.potential.Potential.begin.Given as goal

abbrev pub invariant-loop : goal.invariant-loop
invariant-loop l = IsRoomFor l.prepared l.self.bounds
