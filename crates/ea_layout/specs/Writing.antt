-- What labels and links are copied from, and what is written under the numbers of the network.
use Rattle.std.specs.Prelude.{◌≡◌, ◌≢◌, ℕ, List, Option, Some, length}
use Rattle.ea_paths.specs.Stored.{AreFollowable}
use Rattle.ea_road.specs.declared.TheConstants.{NONE}
use Rattle.ea_road.specs.Labels.{label_of}
use Rattle.ea_road.specs.Roads.{IsNode}
use Rattle.ea_search.specs.declared.link.Link.{Link}
use Rattle.ea_search.specs.Links.{link, no_link}
use Rattle.ea_search.specs.Listings.{AreLinksListed, IsListed, KeepsListed, Listing}
use Rattle.ea_search.specs.Underway.{bound_of}
use Rattle.ea_layout.specs.declared.layout.Layout.{Layout}
use Rattle.ea_layout.specs.declared.written.Written.{Written}
use Rattle.ea_layout.specs.Copied.{AreAskedCopied, AreCleared, AreLabelsCopied, AreLinksCopied, CanRewrite, HasLevel, IsLinkCopied}
use Rattle.ea_layout.specs.Renamed.{AreReverse, StayNodes, number_of}

-- Labels under new numbers can be copied into these labels.
pub record CanCopyLabels (places laid labels : List ℕ) : Type 0 where
  pub lengths : (length laid ≡ length places) × (length labels ≡ length places)
  pub inside : StayNodes places

-- The label of a target was copied, and no other.
pub record CopiesLabel (places laid : List ℕ) (target : ℕ) (labels labels' : List ℕ) : Type 0 where
  pub copied : AreLabelsCopied (length places) (Some target) places laid labels'
  pub others : (node : ℕ) → node ≢ target → bound_of labels' node ≡ bound_of labels node

-- A link under the numbers of a layout can be copied into these links.
pub record CanCopyLink (layout : Layout) (laid links : List Link) : Type 0 where
  pub places : length links ≡ length laid
  pub reverse : AreReverse (length laid) layout.places.items layout.nodes.items

-- All links can be copied, and can be followed.
pub record CanCopyLinks (layout : Layout) (laid links : List Link) : Type 0 where
  pub can : CanCopyLink layout laid links
  pub followable : AreFollowable laid

-- The link of each node was copied.
pub record CopiesLinks (layout : Layout) (laid links' : List Link) : Type 0 where
  pub copied : AreLinksCopied (length laid) layout.places.items layout.nodes.items laid links'
  pub all : (node : ℕ) → IsNode (length laid) node → IsLinkCopied layout.places.items layout.nodes.items laid links' node

-- The target is a node, and its link under its new number has a level.
pub record HasWalkTo (layout : Layout) (laid : List Link) (target : ℕ) : Type 0 where
  pub is_node : IsNode (length laid) target
  pub level : HasLevel laid (number_of layout.places.items target)

-- The link of this new number was copied to its node, which is listed. Other links stay.
pub record CopiesLink (layout : Layout) (laid : List Link) (at : ℕ) (links links' : List Link) (listing listing' : Listing) : Type 0 where
  pub places : length links' ≡ length links
  pub copied : IsLinkCopied layout.places.items layout.nodes.items laid links' (number_of layout.nodes.items at)
  pub others : (node : ℕ) → node ≢ number_of layout.nodes.items at → link links' node ≡ link links node
  pub there : IsListed listing' (number_of layout.nodes.items at)
  pub kept : KeepsListed (IsListed listing) (IsListed listing')

-- The link of a target was copied, and with each node's link that of the node before it on its walk. Nodes that
-- have a link are listed.
pub record CopiesWalk (layout : Layout) (laid : List Link) (target : ℕ) (links' : List Link) (listing listing' : Listing) : Type 0 where
  pub copied : AreLinksCopied (length laid) layout.places.items layout.nodes.items laid links'
  pub of_target : IsLinkCopied layout.places.items layout.nodes.items laid links' target
  pub listed : AreLinksListed links' (IsListed listing')
  pub kept : KeepsListed (IsListed listing) (IsListed listing')

-- What was written can be written again.
abbrev pub CanRewriteAll : ℕ → Written → Type 0
CanRewriteAll nodes written = CanRewrite nodes written.labels.items written.links.items written.listed

-- What was written was reset.
pub record IsReset (before after : Written) : Type 0 where
  pub places : length after.labels.items ≡ length before.labels.items
  pub labels : (node : ℕ) → bound_of after.labels.items node ≡ NONE
  pub many : length after.links.items ≡ length before.links.items
  pub links : (node : ℕ) → link after.links.items node ≡ no_link

-- The labels of asked nodes can be written.
pub record CanWriteLabels (places : List ℕ) (target : Option ℕ) (laid : List ℕ) (written : Written) : Type 0 where
  pub can : CanRewriteAll (length places) written
  pub many : length laid ≡ length places
  pub inside : StayNodes places
  pub is_node : (node : ℕ) → target ≡ Some node → IsNode (length places) node

-- They were written; for a target, links were reset.
pub record WritesLabels (places : List ℕ) (target : Option ℕ) (laid : List ℕ) (before after : Written) : Type 0 where
  pub can : CanRewriteAll (length places) after
  pub copied : AreLabelsCopied (length places) target places laid after.labels.items
  pub many : length after.links.items ≡ length before.links.items
  pub cleared : AreCleared target after.links.items

-- The links of all nodes, or of those on the walk to a target that has a label, can be written.
pub record CanWriteLinks (layout : Layout) (target : Option ℕ) (laid : List Link) (written : Written) : Type 0 where
  pub can : CanRewriteAll (length laid) written
  pub copies : CanCopyLinks layout laid written.links.items
  pub is_node : (node : ℕ) → target ≡ Some node → IsNode (length laid) node
  pub level : (node : ℕ) → target ≡ Some node → label_of written.labels.items node ≢ NONE → HasLevel laid (number_of layout.places.items node)
  pub cleared : AreCleared target written.links.items

-- They were written.
pub record WritesLinks (layout : Layout) (target : Option ℕ) (laid : List Link) (before after : Written) : Type 0 where
  pub can : CanRewriteAll (length laid) after
  pub labels : after.labels.items ≡ before.labels.items
  pub copied : AreLinksCopied (length laid) layout.places.items layout.nodes.items laid after.links.items
  pub asked : AreAskedCopied (length laid) target layout.places.items layout.nodes.items after.labels.items laid after.links.items
