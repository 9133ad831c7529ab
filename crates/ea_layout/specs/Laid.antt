-- Queries and searches under the numbers of a layout.
use Rattle.std.specs.Prelude.{◌≡◌, ℕ, IfSome, IsTrue, List, is_some, length}
use Rattle.std.specs.List.{IsAmong}
use Rattle.ea_road.specs.declared.source.Source.{Source}
use Rattle.ea_road.specs.Queries.{Asking, IsProblem}
use Rattle.ea_road.specs.Roads.{IsNode, Roads}
use Rattle.ea_hierarchy.specs.Preparations.{IsPreparedFor}
use Rattle.ea_search.specs.Listings.{Searched}
use Rattle.ea_layout.specs.declared.layout.Layout.{Layout}
use Rattle.ea_layout.specs.Orders.{LaysOut}
use Rattle.ea_layout.specs.Renamed.{StayNodes}

-- Each source is at a node that has a new number, and new numbers are those of nodes.
pub record CanRename (numbers : List ℕ) (sources : List Source) : Type 0 where
  pub nodes : (source : Source) → IsAmong sources source → IsNode (length numbers) source.node
  pub inside : StayNodes numbers

-- The preparation of a layout, if it has one, is of its network and of these arrivals.
abbrev pub IsPreparedLaid : (ℕ → ℕ → ℕ → ℕ → Type 0) → Layout → Type 0
IsPreparedLaid answers layout = IfSome layout.prepared (λ prepared. IsPreparedFor layout.network answers prepared)

-- A layout that is prepared, and has as many nodes as a network.
pub record IsPattern (roads : Roads) (layout : Layout) : Type 0 where
  pub prepared : IsTrue (is_some layout.prepared)
  pub nodes : length layout.nodes.items ≡ roads.nodes

-- A query, a layout of its network, and arrays for its nodes.
pub record CanFindLaid
    (roads : Roads)
    (answers : ℕ → ℕ → ℕ → ℕ → Type 0)
    (layout : Layout)
    (classes : ℕ)
    (query : Asking)
    (search : Searched)
    : Type 0 where
  pub laid_out : LaysOut roads layout
  pub prepared : IsPreparedLaid answers layout
  pub problem : IsProblem roads classes query
  pub nodes : search.nodes ≡ roads.nodes
