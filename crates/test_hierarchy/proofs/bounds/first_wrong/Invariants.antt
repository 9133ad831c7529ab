use Rattle.ea_hierarchy.specs.Bounds.{AreBoundsOver}
use Rattle.test_hierarchy.proofs.bounds.first_wrong.Given as goal

abbrev pub invariant-loop-node : goal.invariant-loop-node
invariant-loop-node l = AreBoundsOver l.prepared l.bounds
