-- Nodes whose reported times are supported by a source, or by an arc from an earlier time.
use Rattle.std.specs.Prelude.{◌≡◌, ◌⊎◌, ℕ, ◌-◌, ◌<◌, ◌≤◌, Bool, true, false, List, length, slice_index_or}
use Rattle.std.specs.List.{IsAmong}
use Rattle.ea_road.specs.declared.source.Source.{Source}
use Rattle.ea_road.specs.Roads.{Roads}
use Rattle.ea_road.specs.Levels.{IsTight}
use Rattle.ea_check.specs.Verdicts.{Said, Improves, IsReported, IsTask, IsWellFormed, reported_time}

-- A source at the node departs at its reported time, or a tight arc leads to it from an earlier time.
pub data IsSupported
    (roads : Roads)
    (answers : ℕ → ℕ → ℕ → ℕ → Type 0)
    (sources : List Source)
    (reported : List Said)
    : ℕ → Type 0 where
  from_source : {source : Source} → IsAmong sources source → IsReported reported source.node source.departure → IsSupported roads answers sources reported source.node
  from_earlier : {number tail head : ℕ} → IsTight roads answers (IsReported reported) number tail head → reported_time reported tail < reported_time reported head → IsSupported roads answers sources reported head

-- Whether a node is marked: the first mark is that of node 1.
abbrev pub IsMarked : List Bool → ℕ → Type 0
IsMarked marks node = slice_index_or marks (node - 1) false ≡ true

-- A mark for each node; the marked ones are supported.
pub record AreSupported
    (roads : Roads)
    (answers : ℕ → ℕ → ℕ → ℕ → Type 0)
    (sources : List Source)
    (reported : List Said)
    (marks : List Bool)
    : Type 0 where
  pub each_node : length marks ≡ roads.nodes
  pub each : (node : ℕ) → 0 < node → IsMarked marks node → IsSupported roads answers sources reported node

-- The lines of a problem can be judged, and the marked nodes are supported.
pub record MayMark
    (roads : Roads)
    (answers : ℕ → ℕ → ℕ → ℕ → Type 0)
    (classes : ℕ)
    (sources : List Source)
    (reported : List Said)
    (marks : List Bool)
    : Type 0 where
  pub task : IsTask roads classes sources
  pub formed : IsWellFormed roads.nodes reported
  pub are_supported : AreSupported roads answers sources reported marks

-- The lowest node was kept, or one below it was found whose reported time is improved; and the marked nodes are
-- supported.
pub record FindsLower
    (roads : Roads)
    (answers : ℕ → ℕ → ℕ → ℕ → Type 0)
    (sources : List Source)
    (reported : List Said)
    (above lowest : ℕ)
    (marks : List Bool)
    : Type 0 where
  pub lower : lowest ≤ above
  pub found : (lowest ≡ above) ⊎ Improves roads answers sources (reported_time reported) lowest
  pub are_supported : AreSupported roads answers sources reported marks
