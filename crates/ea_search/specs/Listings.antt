-- The nodes that a search listed as reached, and the arrays that the next search reuses.
use Rattle.std.specs.Prelude.{◌≡◌, ◌≢◌, ℕ, Bool, true, false, List, [], length, Contains, ◌⊎◌, if◌then◌else◌}
use Rattle.ea_road.specs.declared.TheConstants.{NONE}
use Rattle.ea_search.specs.declared.link.Link.{Link}
use Rattle.ea_search.specs.Answers.{Answered}
use Rattle.ea_search.specs.Frontiers.{HaveNone}
use Rattle.ea_search.specs.Links.{link, no_link}
use Rattle.ea_search.specs.Underway.{bound_of}
use Rattle.ea_search.specs.Worklist.{Ring}

-- Nodes, or all nodes.
pub record Listing : Type 0 where
  pub nodes : List ℕ
  pub all : Bool

abbrev pub nothing : Listing
nothing = record { nodes = []; all = false }

abbrev pub IsListed : Listing → ℕ → Type 0
IsListed listing node = (listing.all ≡ true) ⊎ Contains listing.nodes node

-- What was listed stays listed.
abbrev pub KeepsListed : (ℕ → Type 0) → (ℕ → Type 0) → Type 0
KeepsListed before after = (node : ℕ) → before node → after node

-- Each node that has a label is listed.
abbrev pub AreLabelsListed : List ℕ → (ℕ → Type 0) → Type 0
AreLabelsListed table listed = (node : ℕ) → bound_of table node ≢ NONE → listed node

-- Each node has no link, or is listed.
abbrev pub AreLinksListed : List Link → (ℕ → Type 0) → Type 0
AreLinksListed links listed = (node : ℕ) → (link links node ≡ no_link) ⊎ listed node

-- A node was reset to what it is at first, and all others are as before.
pub record ResetsAt {A : Type 0} (node : ℕ) (first : A) (before after : ℕ → A) : Type 0 where
  pub reset : after node ≡ first
  pub others : (v : ℕ) → v ≢ node → after v ≡ before v

-- How many nodes a search has room for, whether it has room for walks, and its last answer.
pub record Searched : Type 0 where
  pub nodes : ℕ
  pub walks : Bool
  pub answer : Answered

-- The arrays of a search can be reused: no node waits, and everything that the last search wrote is at listed
-- nodes.
pub record CanSearch (waiting : Ring) (walks : Bool) (answer : Answered) (listing : Listing) (lists : List (List (ℕ × ℕ))) : Type 0 where
  pub nobody : waiting.waiting ≡ []
  pub labels : length answer.labels ≡ waiting.nodes
  pub links : length answer.links ≡ (if walks then waiting.nodes else 0)
  pub many : length lists ≡ 66
  pub none : HaveNone lists
  pub reached : AreLabelsListed answer.labels (IsListed listing)
  pub linked : AreLinksListed answer.links (IsListed listing)
