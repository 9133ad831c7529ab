-- Queries as contracts see them, and when a network, travel times and a query make a problem.
use Rattle.std.specs.Prelude.{◌≡◌, ℕ, ◌<◌, ◌≤◌, List, Option, Some, None}
use Rattle.std.specs.List.{IsAmong}
use Rattle.ea_base.specs.declared.limits.TheConstants.{HORIZON}
use Rattle.ea_road.specs.declared.source.Source.{Source}
use Rattle.ea_road.specs.Roads.{Roads, IsNode, top_class}

-- The sources, and the target of a pair query.
pub record Asking : Type 0 where
  pub sources : List Source
  pub target : Option ℕ

-- All nodes are asked, or the target alone.
abbrev pub IsAskedBy : Option ℕ → ℕ → Type 0
IsAskedBy None node = Unit {0}
IsAskedBy (Some target) node = node ≡ target

abbrev pub IsAsked : Asking → ℕ → Type 0
IsAsked query node = IsAskedBy query.target node

-- A source's number is that of a node, and its departure is within the horizon.
pub record IsSource (source : Source) : Type 0 where
  pub from_one : 0 < source.node
  pub within : source.departure ≤ HORIZON

-- Each source is valid.
pub record AreSources (sources : List Source) : Type 0 where
  pub each : (source : Source) → IsAmong sources source → IsSource source

-- A query's sources are sources, and its target is numbered from 1.
pub record IsQuery (query : Asking) : Type 0 where
  pub sources : AreSources query.sources
  pub target : (node : ℕ) → query.target ≡ Some node → 0 < node

-- The condition of every call with a network, travel times and a query: the travel times have each arc's
-- class, sources and target are nodes of the network, and departures are within the horizon.
pub record IsProblem (roads : Roads) (classes : ℕ) (query : Asking) : Type 0 where
  pub classed : top_class roads.arcs ≤ classes
  pub sources : (source : Source) → IsAmong query.sources source → IsNode roads.nodes source.node
  pub departures : (source : Source) → IsAmong query.sources source → source.departure ≤ HORIZON
  pub target : (node : ℕ) → query.target ≡ Some node → IsNode roads.nodes node
