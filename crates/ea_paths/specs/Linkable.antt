-- When links can be offered to nodes and found for all of them, and what is found.
use Rattle.std.specs.Prelude.{◌≡◌, ℕ, ◌+◌, ◌<◌, ◌≤◌, List, [], length}
use Rattle.ea_base.specs.declared.limits.TheConstants.{HORIZON}
use Rattle.ea_road.specs.declared.arc.Arc.{Arc}
use Rattle.ea_road.specs.declared.source.Source.{Source}
use Rattle.ea_road.specs.Labels.{IsLabel, label_of}
use Rattle.ea_road.specs.Roads.{Roads, IsArc, IsNode, top_class}
use Rattle.ea_search.specs.declared.link.Link.{Link}
use Rattle.ea_search.specs.declared.link.TheConstants.{NO_LEVEL}
use Rattle.ea_search.specs.Links.{AreLinks, AreStarts, link}
use Rattle.ea_search.specs.Underway.{bound_of}
use Rattle.ea_search.specs.Worklist.{Ring}
use Rattle.ea_paths.specs.Offers.{AreSown, Offers}
use Rattle.ea_paths.specs.Places.{HaveNoLinks}
use Rattle.ea_paths.specs.Replayed.{IsSeedLink}

-- The travel times have each arc's class, and each node has a label, a place for its link and room to wait.
pub record CanOffer (roads : Roads) (classes : ℕ) (table : List ℕ) (links : List Link) (waiting : Ring) : Type 0 where
  pub classed : top_class roads.arcs ≤ classes
  pub labels : length table ≡ roads.nodes
  pub places : length links ≡ roads.nodes
  pub room : waiting.nodes ≡ roads.nodes

-- A node has a label within the horizon, and one more level fits above its link.
pub record CanSpread (nodes : ℕ) (table : List ℕ) (links : List Link) (node : ℕ) : Type 0 where
  pub is_node : IsNode nodes node
  pub departure : bound_of table node ≤ HORIZON
  pub level : (link links node).level + 1 < NO_LEVEL

-- An arc is left at its tail's label, within the horizon, and this is a link by the arc.
pub record IsLinkBy (roads : Roads) (table : List ℕ) (arc : Arc) (departure : ℕ) (new : Link) : Type 0 where
  pub is_arc : IsArc roads new.arc arc
  pub tail : arc.tail ≡ new.from
  pub within : departure ≤ HORIZON
  pub departs : departure ≡ bound_of table new.from
  pub level : new.level < NO_LEVEL

-- The travel times have each arc's class, sources are at nodes, and each node has a label and no link yet.
pub record CanLink (roads : Roads) (classes : ℕ) (sources : List Source) (table : List ℕ) (links : List Link) (waiting : Ring) : Type 0 where
  pub classed : top_class roads.arcs ≤ classes
  pub starts : AreStarts roads.nodes sources
  pub labels : length table ≡ roads.nodes
  pub begins : HaveNoLinks roads.nodes links waiting

-- Each node has its link over the labels of a table, and no node waits.
pub record HaveLinks
    (roads : Roads)
    (answers : ℕ → ℕ → ℕ → ℕ → Type 0)
    (sources : List Source)
    (table : List ℕ)
    (links : List Link)
    (waiting : Ring)
    : Type 0 where
  pub are_links : AreLinks roads answers sources (IsLabel (label_of table)) links
  pub nobody : waiting.waiting ≡ []
  pub room : waiting.nodes ≡ roads.nodes

-- The sources up to a place were linked, over any links.
pub record LinksSources
    (sources : List Source)
    (table : List ℕ)
    (count : ℕ)
    (links : List Link)
    (waiting : Ring)
    (links' : List Link)
    (waiting' : Ring)
    : Type 0 where
  pub offers : Offers waiting.nodes (IsSeedLink sources table) links waiting.waiting links' waiting'.waiting
  pub sown : AreSown sources table links' count
  pub room : waiting'.nodes ≡ waiting.nodes
