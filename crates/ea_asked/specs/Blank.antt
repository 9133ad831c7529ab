-- The arrays of an answer before it is written.
use Rattle.std.specs.Prelude.{◌≡◌, ℕ, All, Bool, List, [], length, replicate}
use Rattle.ea_road.specs.declared.TheConstants.{NONE}
use Rattle.ea_road.specs.Roads.{IsNode}
use Rattle.ea_search.specs.Links.{no_links}
use Rattle.ea_search.specs.Listings.{AreLabelsListed, IsListed, Listing, nothing}
use Rattle.ea_asked.specs.Stores.{room}
use Rattle.ea_asked.specs.declared.arrays.Arrays.{Arrays}

-- No node has a label in the answer.
pub record NoneIsShown (nodes : ℕ) (labels : List ℕ) (shown : Listing) : Type 0 where
  pub unlabelled : labels ≡ replicate nodes NONE
  pub unlisted : shown ≡ nothing

-- No node has a label or a link in the answer, and no node waits.
pub record IsBlank (nodes : ℕ) (walks : Bool) (arrays : Arrays) : Type 0 where
  pub unshown : NoneIsShown nodes arrays.labels.items arrays.shown
  pub links : arrays.links.items ≡ no_links nodes walks
  pub waits : arrays.waiting.nodes ≡ room nodes walks
  pub nobody : arrays.waiting.waiting ≡ []

-- A search has a label for each node, and its answer can be written.
pub record CanAnswer (nodes : ℕ) (walks : Bool) (arrays : Arrays) : Type 0 where
  pub blank : IsBlank nodes walks arrays
  pub count : length arrays.table.items ≡ nodes

-- The labels of asked nodes can be written, and each node with a label is listed.
pub record CanShow (nodes : ℕ) (walks : Bool) (asked : List ℕ) (arrays : Arrays) : Type 0 where
  pub answer : CanAnswer nodes walks arrays
  pub listed : AreLabelsListed arrays.table.items (IsListed arrays.listed)
  pub are_nodes : All (IsNode nodes) asked

-- A search wrote its labels, one for each node, and listed the nodes that it reached. An answer that was blank stays
-- so.
pub record WritesTable (nodes : ℕ) (before after : Arrays) : Type 0 where
  pub count : length after.table.items ≡ nodes
  pub listed : AreLabelsListed after.table.items (IsListed after.listed)
  pub blank : (walks : Bool) → IsBlank nodes walks before → IsBlank nodes walks after
