-- Walks that are compared with links one after another.
use Rattle.std.specs.Prelude.{ℕ, List}
use Rattle.ea_road.specs.declared.source.Source.{Source}
use Rattle.ea_road.specs.Roads.{Roads}
use Rattle.ea_search.specs.declared.link.Link.{Link}
use Rattle.ea_check.specs.declared.judge.canonical_walk.Compared.{Compared}
use Rattle.ea_search.specs.Links.{AreLinks}
use Rattle.ea_check.specs.Paths.{IsPassed}
use Rattle.ea_check.specs.Starts.{AreOrdered}
use Rattle.ea_check.specs.Verdicts.{Said, IsReported, IsTask, IsWellFormed}
use Rattle.ea_check.specs.WalksLeft.{IsAtNode}

-- What is known of the last walk that was read.
abbrev pub HasPassed : List Link → Compared → Type 0
HasPassed links walks = IsPassed links walks.reader.arcs.items walks.path.nodes.items walks.path.known

-- The lines of a problem can be judged, and its walks compared with these links, which are those of its reported
-- times; its sources are in this order.
pub record MayCompare
    (roads : Roads)
    (answers : ℕ → ℕ → ℕ → ℕ → Type 0)
    (classes : ℕ)
    (sources ordered : List Source)
    (reported : List Said)
    (links : List Link)
    : Type 0 where
  pub task : IsTask roads classes sources
  pub formed : IsWellFormed roads.nodes reported
  pub are_ordered : AreOrdered sources ordered
  pub are_links : AreLinks roads answers sources (IsReported reported) links

-- The walks of the nodes from this one on are left to be compared.
pub record ComparesFrom (links : List Link) (reported : List Said) (node : ℕ) (walks : Compared) : Type 0 where
  pub left : IsAtNode reported node walks.reader
  pub passed : HasPassed links walks
