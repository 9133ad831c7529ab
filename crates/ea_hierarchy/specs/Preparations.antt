-- A preparation of a network and of travel times.
use Rattle.std.specs.Prelude.{◌≡◌, ℕ, ◌+◌, List, length}
use Rattle.ea_road.specs.Roads.{IsArc, Roads}
use Rattle.ea_road.specs.declared.arc.Arc.{Arc}
use Rattle.ea_travel_times.specs.Lows.{IsLowerBound}
use Rattle.ea_hierarchy.specs.Growth.{AreJoined}
use Rattle.ea_hierarchy.specs.Hierarchies.{Hierarchy, IsCovered}

-- A least travel time of an arc that an upward arc's number doesn't exceed.
pub record IsLowCovered (answers : ℕ → ℕ → ℕ → ℕ → Type 0) (ranks firsts heads ups downs : List ℕ) (arc : Arc) : Type 0 where
  pub low : ℕ
  pub bounds : IsLowerBound answers arc.class arc.weight low
  pub covered : IsCovered ranks firsts heads ups downs arc low

-- Each arc of the network has one.
abbrev pub AreCovered : Roads → (ℕ → ℕ → ℕ → ℕ → Type 0) → List ℕ → List ℕ → List ℕ → List ℕ → List ℕ → Type 0
AreCovered roads answers ranks firsts heads ups downs =
    (number : ℕ) (arc : Arc) → IsArc roads number arc → IsLowCovered answers ranks firsts heads ups downs arc

-- The upward arcs are those of the network.
pub record IsPreparedOver (roads : Roads) (hierarchy : Hierarchy) : Type 0 where
  pub ranked : length hierarchy.ranks ≡ roads.nodes
  pub nodes : length hierarchy.firsts ≡ roads.nodes + 1
  pub joined : AreJoined roads hierarchy.ranks hierarchy.firsts hierarchy.heads

-- And their numbers are at most the least travel times.
pub record IsPreparedFor (roads : Roads) (answers : ℕ → ℕ → ℕ → ℕ → Type 0) (hierarchy : Hierarchy) : Type 0 where
  pub over : IsPreparedOver roads hierarchy
  pub covered : AreCovered roads answers hierarchy.ranks hierarchy.firsts hierarchy.heads hierarchy.ups hierarchy.downs
