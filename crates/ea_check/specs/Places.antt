-- What a report still needs, place by place.
use Rattle.std.specs.Prelude.{◌≢◌, ℕ, suc, Option, Some, None, ◌+◌, ◌^◌, ◌<◌, List, [], ◌∷◌}
use Rattle.ea_road.specs.declared.TheConstants.{NONE}
use Rattle.ea_road.specs.declared.source.Source.{Source}
use Rattle.ea_check.specs.Form.{Line, SaysSource, SaysTime, SaysWalk}

-- Lines that end a report which still needs: the optional walk of a node, sources of a problem, this many of
-- its nodes from this one on, and further problems.
pub data Remains (nodes : ℕ) : Option ℕ → List Source → ℕ → ℕ → List (List Source) → List Line → Type 0 where
  ended : {node : ℕ} → Remains nodes None [] node 0 [] []
  problem_begins : {node : ℕ} {sources : List Source} {queries : List (List Source)} {lines : List Line} → Remains nodes None sources 1 nodes queries lines → Remains nodes None [] node 0 (sources ∷ queries) lines
  source_line : {source : Source} {sources : List Source} {node count : ℕ} {queries : List (List Source)} {line : Line} {lines : List Line} → SaysSource line.way line.fields source.node source.departure → Remains nodes None sources node count queries lines → Remains nodes None (source ∷ sources) node count queries (line ∷ lines)
  inf_line : {node count : ℕ} {queries : List (List Source)} {line : Line} {lines : List Line} → SaysTime line.way line.fields node NONE → Remains nodes None [] (node + 1) count queries lines → Remains nodes None [] node (suc count) queries (line ∷ lines)
  time_line : {node count : ℕ} {queries : List (List Source)} {line : Line} {lines : List Line} (time : ℕ) → SaysTime line.way line.fields node time → time ≢ NONE → Remains nodes (Some node) [] (node + 1) count queries lines → Remains nodes None [] node (suc count) queries (line ∷ lines)
  no_walk : {walked node count : ℕ} {queries : List (List Source)} {lines : List Line} → Remains nodes None [] node count queries lines → Remains nodes (Some walked) [] node count queries lines
  walk_line : {walked node count : ℕ} {queries : List (List Source)} {line : Line} {lines : List Line} (arcs : List ℕ) → SaysWalk line.way line.fields walked arcs → Remains nodes None [] node count queries lines → Remains nodes (Some walked) [] node count queries (line ∷ lines)

-- Sources whose numbers can be written with 64 bits.
abbrev pub AreSmall : List Source → Type 0
AreSmall [] = Unit {0}
AreSmall (source ∷ sources) = (source.node < 2 ^ 64) × (source.departure < 2 ^ 64) × AreSmall sources

abbrev pub AreAllSmall : List (List Source) → Type 0
AreAllSmall [] = Unit {0}
AreAllSmall (sources ∷ queries) = AreSmall sources × AreAllSmall queries
