-- The bounds that lead a search.
use Rattle.std.specs.Prelude.{ℕ}
use Rattle.ea_hierarchy.specs.Bounds.{AreBoundsOver, bound_of}
use Rattle.ea_hierarchy.specs.Hierarchies.{Hierarchy}
use Rattle.ea_goal.specs.declared.potential.Potential.{Potential}

-- The bound of a node.
abbrev pub potential_of : Hierarchy → Potential → ℕ → ℕ
potential_of hierarchy potential node = bound_of hierarchy potential.bounds node

-- The bounds that were found are those of the preparation.
abbrev pub IsPotentialOver : Hierarchy → Potential → Type 0
IsPotentialOver hierarchy potential = AreBoundsOver hierarchy potential.bounds
