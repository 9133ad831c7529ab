-- Graphs whose texts are read in pieces.
use Rattle.std.specs.Prelude.{◌≡◌, ◌≤◌, ◌<◌, ◌+◌, ◌^◌, ℕ, List, [], ◌++◌, length, Bool, true, false, Some, Result, Ok}
use Rattle.ea_input.specs.Graph.{GraphRead}
use Rattle.ea_blocks.specs.Reading.{lines_after}
use Rattle.ea_blocks.specs.declared.fault.FaultKind.{FaultKind}
use Rattle.ea_input.specs.declared.graph.GraphSize.{GraphSize}

-- A reader of a graph that begins behind the problem line, with no arcs.
pub record BeginsAside (read : GraphRead) : Type 0 where
  pub size : GraphSize
  pub sized : read.size ≡ Some size
  pub small : size.nodes < 2 ^ 64
  pub none : read.arcs ≡ []

-- The arcs of a reader aside are put behind those of another if they fit: as many nodes, and no more arcs than are announced. Else
-- all is as it was.
abbrev pub IsAppended : GraphRead → GraphRead → GraphRead → Bool → Type 0
IsAppended before aside after true =
    (now : GraphSize) × (size : GraphSize) × (before.size ≡ Some now) × (aside.size ≡ Some size) × (now.nodes ≡ size.nodes)
    × (length before.arcs + length aside.arcs ≤ now.arcs) × (after ≡ record before { arcs = before.arcs ++ aside.arcs })
IsAppended before aside after false = after ≡ before
