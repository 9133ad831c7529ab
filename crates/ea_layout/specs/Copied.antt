-- What an answer under other numbers of the nodes says, written under the numbers of the network.
use Rattle.std.specs.Prelude.{◌≡◌, ◌≢◌, ℕ, ◌<◌, List, Option, Some, length, ◌⊎◌}
use Rattle.ea_road.specs.declared.TheConstants.{NONE}
use Rattle.ea_road.specs.Labels.{label_of}
use Rattle.ea_road.specs.Queries.{Asking, IsAskedBy}
use Rattle.ea_road.specs.Roads.{IsNode}
use Rattle.ea_search.specs.declared.link.Link.{Link}
use Rattle.ea_search.specs.declared.link.TheConstants.{NO_LEVEL}
use Rattle.ea_search.specs.Links.{link, no_link}
use Rattle.ea_search.specs.Listings.{AreLabelsListed, AreLinksListed, IsListed, Listing}
use Rattle.ea_layout.specs.Renamed.{number_of, renamed_sources}

-- A query under other numbers asks at least for the nodes that a query asks for, from its sources.
pub record AsksFor (numbers : List ℕ) (query laid : Asking) : Type 0 where
  pub sources : laid.sources ≡ renamed_sources numbers query.sources
  pub asks : (node : ℕ) → IsAskedBy query.target node → IsAskedBy laid.target (number_of numbers node)
  pub target : (node : ℕ) → laid.target ≡ Some node → (first : ℕ) × (query.target ≡ Some first) × (node ≡ number_of numbers first)

-- Each asked node has the label that it has under its new number.
pub record AreLabelsCopied (nodes : ℕ) (target : Option ℕ) (numbers laid labels : List ℕ) : Type 0 where
  pub places : length labels ≡ nodes
  pub each : (node : ℕ) → IsNode nodes node → IsAskedBy target node → label_of labels node ≡ label_of laid (number_of numbers node)

-- A link, whose tail goes by its number in the network.
pub record IsCopyOf (nodes : List ℕ) (laid copy : Link) : Type 0 where
  pub level : copy.level ≡ laid.level
  pub arc : copy.arc ≡ laid.arc
  pub from : IsNode (length nodes) laid.from → copy.from ≡ number_of nodes laid.from

-- A node has the link that it has under its new number.
abbrev pub IsLinkCopied : List ℕ → List ℕ → List Link → List Link → ℕ → Type 0
IsLinkCopied numbers nodes laid links node = IsCopyOf nodes (link laid (number_of numbers node)) (link links node)

abbrev pub HasLevel : List Link → ℕ → Type 0
HasLevel links node = (link links node).level < NO_LEVEL

-- Some nodes have the links that they have under their new numbers, with each node also the one before it on
-- its walk; the others have none.
pub record AreLinksCopied (count : ℕ) (numbers nodes : List ℕ) (laid links : List Link) : Type 0 where
  pub places : length links ≡ count
  pub each : (node : ℕ) → IsNode count node → (link links node ≡ no_link) ⊎ IsLinkCopied numbers nodes laid links node
  pub before : (node : ℕ) → IsNode count node → 0 < (link links node).level → HasLevel links node → IsLinkCopied numbers nodes laid links (link links node).from

-- Each asked node that has a label is one of those.
abbrev pub AreAskedCopied : ℕ → Option ℕ → List ℕ → List ℕ → List ℕ → List Link → List Link → Type 0
AreAskedCopied count target numbers nodes labels laid links =
    (node : ℕ) → IsNode count node → IsAskedBy target node → label_of labels node ≢ NONE → IsLinkCopied numbers nodes laid links node

-- Labels and links can be written again: what was written in them is at listed nodes.
pub record CanRewrite (nodes : ℕ) (labels : List ℕ) (links : List Link) (listing : Listing) : Type 0 where
  pub places : length labels ≡ nodes
  pub reached : AreLabelsListed labels (IsListed listing)
  pub linked : AreLinksListed links (IsListed listing)

-- No node has a link if a target is asked for.
abbrev pub AreCleared : Option ℕ → List Link → Type 0
AreCleared target links = (asked : ℕ) → target ≡ Some asked → (node : ℕ) → link links node ≡ no_link
