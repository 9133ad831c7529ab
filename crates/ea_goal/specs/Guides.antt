-- Room for led searches.
use Rattle.std.specs.Prelude.{◌≡◌, ℕ, ◌+◌, ◌≤◌, [], length}
use Rattle.std.specs.Vec.{vec_capacity}
use Rattle.ea_hierarchy.specs.Cells.{AreReached}
use Rattle.ea_hierarchy.specs.declared.bounds.Bounds.{Bounds}

-- There is room for bounds of this number of nodes.
pub record HasRoomFor (nodes : ℕ) (bounds : Bounds) : Type 0 where
  pub count : length bounds.cells.list.items ≡ nodes
  pub stamps : AreReached (bounds.cells.aim.stamp + 1) bounds.cells.list.items
  pub path_empty : bounds.path.items ≡ []
  pub path_room : nodes ≤ vec_capacity bounds.path
