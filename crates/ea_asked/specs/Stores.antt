-- The arrays of searches for some nodes.
use Rattle.std.specs.Prelude.{◌≡◌, ◌⊎◌, ℕ, ◌<◌, Bool, List, [], Contains, length, slice_index, if◌then◌else◌}
use Rattle.ea_road.specs.declared.TheConstants.{NONE}
use Rattle.ea_search.specs.Answers.{Answered}
use Rattle.ea_search.specs.Listings.{AreLabelsListed, AreLinksListed, IsListed, Listing}
use Rattle.ea_search.specs.Underway.{bound_of}
use Rattle.ea_search.specs.Worklist.{Ring}

-- The number of nodes with walks, 0 without.
abbrev pub room : ℕ → Bool → ℕ
room nodes walks = if walks then nodes else 0

-- The first of these nodes have the labels that they have in a table; no other node has a label.
pub record Shows (table asked : List ℕ) (count : ℕ) (labels : List ℕ) : Type 0 where
  pub places : length labels ≡ length table
  pub each : (place : ℕ) → place < count → bound_of labels (slice_index asked place) ≡ bound_of table (slice_index asked place)
  pub others : (node : ℕ) → (bound_of labels node ≡ NONE) ⊎ (Contains asked node × (bound_of labels node ≡ bound_of table node))

-- They can be reused: no node waits, and what the last search wrote is at listed nodes.
pub record IsAskedSearch (table : List ℕ) (listed : Listing) (waiting : Ring) (walks : Bool) (answer : Answered) (showing : Listing) : Type 0 where
  pub places : length table ≡ answer.nodes
  pub labels : length answer.labels ≡ answer.nodes
  pub links : length answer.links ≡ room answer.nodes walks
  pub waits : waiting.nodes ≡ room answer.nodes walks
  pub nobody : waiting.waiting ≡ []
  pub reached : AreLabelsListed table (IsListed listed)
  pub linked : AreLinksListed answer.links (IsListed listed)
  pub shown : AreLabelsListed answer.labels (IsListed showing)
