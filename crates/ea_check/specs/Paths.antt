-- The nodes that a walk passes along links.
use Rattle.std.specs.Prelude.{◌≡◌, ℕ, ◌<◌, ◌≤◌, List, length, take, slice_index}
use Rattle.ea_search.specs.declared.link.Link.{Link}
use Rattle.ea_search.specs.Links.{walk_along}

-- Up to this place, the first arcs of a walk are those along the links of the node at the place.
pub record IsPassed (links : List Link) (arcs nodes : List ℕ) (known : ℕ) : Type 0 where
  pub few : known ≤ length nodes
  pub each : (place : ℕ) → place < known → take place arcs ≡ walk_along links place (slice_index nodes place)
