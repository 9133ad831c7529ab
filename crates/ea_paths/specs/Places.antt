-- Links and a waiting list with a place for each node.
use Rattle.std.specs.Prelude.{◌≡◌, ◌≢◌, ℕ, Bool, IsTrue, List, [], length, replicate}
use Rattle.ea_road.specs.Roads.{IsNode}
use Rattle.ea_search.specs.declared.link.Link.{Link}
use Rattle.ea_search.specs.Links.{link, no_link}
use Rattle.ea_search.specs.Worklist.{Ring}

-- There is a place for the link of each node, and room for each node to wait.
pub record HavePlaces (nodes : ℕ) (links : List Link) (waiting : Ring) : Type 0 where
  pub places : length links ≡ nodes
  pub room : waiting.nodes ≡ nodes

-- There is a place for the link of this node, and room for it to wait.
pub record HasPlace (node : ℕ) (links : List Link) (waiting : Ring) : Type 0 where
  pub is_node : IsNode waiting.nodes node
  pub places : length links ≡ waiting.nodes

-- The same for a node whose link doesn't begin a walk.
pub record IsLaterNode (node : ℕ) (links : List Link) (waiting : Ring) : Type 0 where
  pub place : HasPlace node links waiting
  pub level : (link links node).level ≢ 0

-- No node has a link, and none waits.
pub record HaveNoLinks (nodes : ℕ) (links : List Link) (waiting : Ring) : Type 0 where
  pub none : links ≡ replicate nodes no_link
  pub nobody : waiting.waiting ≡ []
  pub room : waiting.nodes ≡ nodes

-- A step that may be given up: each node still has its place and room to wait and, unless the step was given up,
-- this was done.
pub record TakesStep (nodes : ℕ) (goes_on : Bool) (links : List Link) (waiting : Ring) (what : Type 0) : Type 0 where
  pub places : HavePlaces nodes links waiting
  pub done : IsTrue goes_on → what
