-- The text of walks along links, one after another.
use Rattle.std.specs.Prelude.{◌≡◌, ℕ, zero, suc, ◌-◌, ◌<◌, ◌≤◌, List, [], decimal, map, take, length, slice_index}
use Rattle.std.specs.List.{flat_map}
use Rattle.ea_road.specs.Roads.{IsNode}
use Rattle.ea_paths.specs.Stored.{AreFollowable}
use Rattle.ea_search.specs.declared.link.Link.{Link}
use Rattle.ea_search.specs.declared.link.TheConstants.{NO_LEVEL}
use Rattle.ea_search.specs.Links.{link, linked_walk}
use Rattle.ea_report.specs.Report.{spaced}

-- The numbers of arcs, each after a space.
abbrev pub arcs_text : List ℕ → List ℕ
arcs_text arcs = flat_map spaced (map decimal arcs)

-- The links of nodes, and the current text.
pub record Following : Type 0 where
  pub links : List Link
  pub text : List ℕ

-- The links have a walk to a node: it has a level, and each link above level 0 leads one level down.
pub record HasWalk (links : List Link) (node : ℕ) : Type 0 where
  pub is_node : IsNode (length links) node
  pub followable : AreFollowable links
  pub level : (link links node).level < NO_LEVEL

-- The text of the walk to the node at a place.
abbrev pub text_to : List Link → List ℕ → ℕ → List ℕ
text_to links nodes place = arcs_text (linked_walk links (slice_index nodes place))

-- The node at a place has the place as its level.
abbrev pub HasLevel : List Link → List ℕ → ℕ → Type 0
HasLevel links nodes place = (link links (slice_index nodes place)).level ≡ place

-- The link of the node at a place leads from the node before.
abbrev pub LeadsOn : List Link → List ℕ → ℕ → Type 0
LeadsOn links nodes place = (link links (slice_index nodes place)).from ≡ slice_index nodes (place - 1)

-- A place has a node at its level, whose link leads from the node before.
pub record IsStep (links : List Link) (nodes : List ℕ) (place : ℕ) : Type 0 where
  pub there : place < length nodes
  pub is_node : IsNode (length links) (slice_index nodes place)
  pub level : HasLevel links nodes place
  pub before : 0 < place → LeadsOn links nodes place × HasLevel links nodes (place - 1)

-- From a place on the nodes follow their links: each has its place as its level, and its link leads to the
-- node before.
abbrev pub IsPath : List Link → List ℕ → ℕ → Type 0
IsPath links nodes from = (place : ℕ) → from ≤ place → place < length nodes →
    IsNode (length links) (slice_index nodes place) × ((link links (slice_index nodes place)).level ≡ place)
    × (0 < place → (link links (slice_index nodes place)).from ≡ slice_index nodes (place - 1))

-- Up to the end of each place, the text is that of the walk to the place's node.
pub record AreFronts (links : List Link) (nodes ends text : List ℕ) : Type 0 where
  pub few : length ends ≤ length nodes
  pub within : (place : ℕ) → place < length ends → slice_index ends place ≤ length text
  pub ascending : (place next : ℕ) → place ≤ next → next < length ends → slice_index ends place ≤ slice_index ends next
  pub texts : (place : ℕ) → place < length ends → take (slice_index ends place) text ≡ arcs_text (linked_walk links (slice_index nodes place))

-- The end of the text of the first places.
abbrev pub front_end : List ℕ → ℕ → ℕ
front_end ends zero = 0
front_end ends (suc place) = slice_index ends place

-- The text of the walk to the last of the first places, if there is one.
pub record IsWalkText (links : List Link) (nodes : List ℕ) (places : ℕ) (text : List ℕ) : Type 0 where
  pub whole : 0 < places → text ≡ text_to links nodes (places - 1)
  pub none : places ≤ 0 → text ≡ []

-- The places with an end are written.
pub record AreWritten (links : List Link) (nodes ends text : List ℕ) : Type 0 where
  pub fronts : AreFronts links nodes ends text
  pub text_is : IsWalkText links nodes (length ends) text

-- Up to each end the text is that of the walk to the node of its place, and as a whole that of the walk to this
-- node.
pub record HoldsWalk (links : List Link) (nodes ends text : List ℕ) (node : ℕ) : Type 0 where
  pub fronts : AreFronts links nodes ends text
  pub whole : text ≡ arcs_text (linked_walk links node)

-- There are nodes, and from a place on they follow their links.
pub record FollowLinks (links : List Link) (nodes : List ℕ) (from : ℕ) : Type 0 where
  pub followable : AreFollowable links
  pub few : length nodes ≤ NO_LEVEL
  pub some : 0 < length nodes
  pub path : IsPath links nodes from

-- The nodes of the walk to a node were put in their places, but for the first places, which stay.
pub record FillsBack (links : List Link) (node stay : ℕ) (before after : List ℕ) : Type 0 where
  pub within : stay ≤ length before
  pub places : length after ≡ length before
  pub same : take stay after ≡ take stay before
  pub path : IsPath links after stay
  pub last : slice_index after (link links node).level ≡ node

-- The first of the ends stay, and the nodes at their places.
pub record KeepsFronts (nodes ends nodes' ends' : List ℕ) : Type 0 where
  pub ends_are : ends' ≡ take (length ends') ends
  pub less : length ends' ≤ length ends
  pub few : length ends' ≤ length nodes'
  pub same : take (length ends') nodes' ≡ take (length ends') nodes
