-- Bounds of the travel time to one target.
use Rattle.std.specs.Prelude.{◌≡◌, ℕ, ◌+◌, ◌-◌, ◌≤◌, ◌==◌, [], Option, Some, None, length, if◌then◌else◌}
use Rattle.std.specs.Vec.{vec_capacity}
use Rattle.ea_road.specs.Roads.{IsArc, Roads}
use Rattle.ea_road.specs.declared.arc.Arc.{Arc}
use Rattle.ea_hierarchy.specs.Cells.{AreFound, AreReached, reach_of, worth_of}
use Rattle.ea_hierarchy.specs.Hierarchies.{Hierarchy, IsCovered, rank_of}
use Rattle.ea_hierarchy.specs.Potentials.{IsReach}
use Rattle.ea_hierarchy.specs.declared.bounds.Bounds.{Bounds}
use Rattle.ea_hierarchy.specs.declared.numbers.TheConstants.{NONE}

-- There is room for bounds over a preparation.
pub record IsRoomFor (hierarchy : Hierarchy) (bounds : Bounds) : Type 0 where
  pub count : length bounds.cells.list.items ≡ length hierarchy.firsts - 1
  pub stamps : AreReached (bounds.cells.aim.stamp + 1) bounds.cells.list.items
  pub path_empty : bounds.path.items ≡ []
  pub path_room : length hierarchy.firsts - 1 ≤ vec_capacity bounds.path

-- The bounds that were found are those of the preparation.
pub record AreBoundsOver (hierarchy : Hierarchy) (bounds : Bounds) : Type 0 where
  pub room : IsRoomFor hierarchy bounds
  pub found : AreFound hierarchy.firsts hierarchy.heads hierarchy.ups bounds.cells.aim bounds.cells.list.items

-- And they are bounds of the travel time to a target.
pub record AreBoundsTo (hierarchy : Hierarchy) (target : ℕ) (bounds : Bounds) : Type 0 where
  pub over : AreBoundsOver hierarchy bounds
  pub reach : IsReach (length hierarchy.firsts - 1) hierarchy.firsts hierarchy.heads hierarchy.downs (rank_of hierarchy.ranks target) (reach_of bounds.cells.aim bounds.cells.list.items)

-- The bound of a node, NONE if no walk leads to the target.
abbrev pub bound_of : Hierarchy → Bounds → ℕ → ℕ
bound_of hierarchy bounds node = worth_of hierarchy.firsts hierarchy.heads hierarchy.ups bounds.cells.aim bounds.cells.list.items (rank_of hierarchy.ranks node)

-- What a caller learns.
abbrev pub told : ℕ → Option ℕ
told bound = if bound == NONE then None else Some bound

-- A walk from a node to a target over whose arcs least travel times make up a sum.
pub data Takes (roads : Roads) (hierarchy : Hierarchy) (target : ℕ) : ℕ → ℕ → Type 0 where
  ends : Takes roads hierarchy target target 0
  goes : {number low sum : ℕ} {arc : Arc} → IsArc roads number arc → IsCovered hierarchy.ranks hierarchy.firsts hierarchy.heads hierarchy.ups hierarchy.downs arc low → Takes roads hierarchy target arc.head sum → Takes roads hierarchy target arc.tail (low + sum)
