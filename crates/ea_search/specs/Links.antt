-- Links: how the canonical walk to each node ends.
use Rattle.std.specs.Prelude.{◌≡◌, ◌≢◌, ℕ, zero, suc, ◌-◌, ◌<◌, ◌≤◌, Bool, List, [], ◌∷◌, ◌++◌, length, replicate, slice_index_or, if◌then◌else◌}
use Rattle.std.specs.List.{IsAmong}
use Rattle.ea_base.specs.declared.limits.TheConstants.{HORIZON}
use Rattle.ea_road.specs.declared.source.Source.{Source}
use Rattle.ea_road.specs.Roads.{Roads, IsNode}
use Rattle.ea_road.specs.Levels.{IsTight, HasChain, IsLevel, IsCanonical}
use Rattle.ea_search.specs.declared.link.Link.{Link}
use Rattle.ea_search.specs.declared.link.TheConstants.{NO_LEVEL}

-- Each source is at a node, and departs within the horizon.
abbrev pub AreStarts : ℕ → List Source → Type 0
AreStarts nodes sources = (source : Source) → IsAmong sources source → IsNode nodes source.node × (source.departure ≤ HORIZON)

abbrev pub no_link : Link
no_link = record { level = NO_LEVEL; arc = 0; from = 0 }

-- The links at first: one for each node if there is room for walks.
abbrev pub no_links : ℕ → Bool → List Link
no_links nodes walks = replicate (if walks then nodes else 0) no_link

-- A node's link in a list with a place for each node.
unfoldable pub link : List Link → ℕ → Link
link links zero = no_link
link links (suc place) = slice_index_or links place no_link

-- The arcs found by following up to this number of links back from a node, first arc first.
unfoldable pub walk_along : List Link → ℕ → ℕ → List ℕ
walk_along links zero node = []
walk_along links (suc count) node = walk_along links count (link links node).from ++ (link links node).arc ∷ []

-- The arcs of the walk along the links of a node.
unfoldable pub linked_walk : List Link → ℕ → List ℕ
linked_walk links node = walk_along links (link links node).level node

-- A node's link, for any times of nodes. It has no level if no tight arcs lead from a source at its time to
-- the node. Else it has the node's level and, above level 0, the lowest-numbered tight arc from a node one
-- level below. The links from it then follow its canonical walk.
pub record IsLinked
    (roads : Roads)
    (answers : ℕ → ℕ → ℕ → ℕ → Type 0)
    (sources : List Source)
    (times : ℕ → ℕ → Type 0)
    (links : List Link)
    (node : ℕ)
    : Type 0 where
  pub low : (link links node).level ≤ NO_LEVEL
  pub without : (link links node).level ≡ NO_LEVEL → (count : ℕ) → HasChain roads answers sources times node count → ⊥
  pub level : (link links node).level ≢ NO_LEVEL → IsLevel roads answers sources times node (link links node).level
  pub tight : (link links node).level ≢ NO_LEVEL → 0 < (link links node).level → IsTight roads answers times (link links node).arc (link links node).from node
  pub below : (link links node).level ≢ NO_LEVEL → 0 < (link links node).level → IsLevel roads answers sources times (link links node).from ((link links node).level - 1)
  pub lowest : (link links node).level ≢ NO_LEVEL → 0 < (link links node).level → (other from : ℕ) → IsTight roads answers times other from node → IsLevel roads answers sources times from ((link links node).level - 1) → (link links node).arc ≤ other
  pub walk : (link links node).level ≢ NO_LEVEL → IsCanonical roads answers sources times node (linked_walk links node)

-- Each node has its link.
pub record AreLinks
    (roads : Roads)
    (answers : ℕ → ℕ → ℕ → ℕ → Type 0)
    (sources : List Source)
    (times : ℕ → ℕ → Type 0)
    (links : List Link)
    : Type 0 where
  pub places : length links ≡ roads.nodes
  pub each : (node : ℕ) → IsNode roads.nodes node → IsLinked roads answers sources times links node
