use Rattle.ea_hierarchy.specs.Hierarchies.{AreRanks}
use Rattle.ea_hierarchy.proofs.ranks.places_in.Given as goal

abbrev pub invariant-loop-place : goal.invariant-loop-place
invariant-loop-place l = AreRanks l.nodes l.ranks.items
