-- Parts of a network's arcs, which are judged one beside another.
use Rattle.std.specs.Prelude.{◌≡◌, ◌⊎◌, ℕ, ◌+◌, ◌<◌, ◌≤◌, Bool, List, length, slice_index_or}
use Rattle.ea_base.specs.declared.limits.TheConstants.{HORIZON}
use Rattle.ea_fork_join.specs.declared.TheConstants.{MOST_THREADS}
use Rattle.ea_road.specs.declared.arc.Arc.{Arc}
use Rattle.ea_road.specs.declared.source.Source.{Source}
use Rattle.ea_road.specs.Roads.{Roads, IsArc}
use Rattle.ea_check.specs.declared.judge.part.ArcRange.{ArcRange}
use Rattle.ea_check.specs.declared.judge.part.Part.{Part}
use Rattle.ea_check.specs.Supported.{AreSupported, IsMarked}
use Rattle.ea_check.specs.Verdicts.{Said, Improves, reported_time}

-- The arcs are the network's.
pub record IsRange (roads : Roads) (arcs : ArcRange) : Type 0 where
  pub from_one : 0 < arcs.from
  pub to_last : arcs.to ≤ length roads.arcs + 1

-- And there is a mark for each node.
pub record IsPart (roads : Roads) (part : Part) : Type 0 where
  pub range : IsRange roads part.arcs
  pub each_node : length part.marks.items ≡ roads.nodes

-- An arc of this number is in a part.
pub record IsInPart (parts : List Part) (number : ℕ) : Type 0 where
  pub place : ℕ
  pub inside : place < length parts
  pub from : (part : Part) → (slice_index_or parts place part).arcs.from ≤ number
  pub to : (part : Part) → number < (slice_index_or parts place part).arcs.to

-- Each arc is in a part.
pub record AreParts (roads : Roads) (parts : List Part) : Type 0 where
  pub each : (place : ℕ) (part : Part) → place < length parts → IsPart roads (slice_index_or parts place part)
  pub cover : (number : ℕ) → 0 < number → number ≤ length roads.arcs → IsInPart parts number

-- And there are no more than threads.
abbrev pub AreFewParts : Roads → List Part → Type 0
AreFewParts roads parts = AreParts roads parts × (length parts ≤ MOST_THREADS)

-- No arc in a range improves the reported time of a node below this one.
abbrev pub PassedIn : Roads → (ℕ → ℕ → ℕ → ℕ → Type 0) → List Said → ArcRange → ℕ → Type 0
PassedIn roads answers reported arcs lowest =
    (number : ℕ) (arc : Arc) (arrival : ℕ) → arcs.from ≤ number → number < arcs.to → IsArc roads number arc → reported_time reported arc.tail ≤ HORIZON → answers arc.class arc.weight (reported_time reported arc.tail) arrival → arrival ≤ HORIZON → arrival < reported_time reported arc.head → lowest ≤ arc.head

-- A part was judged: its lowest node whose reported time an arc improves, or the one above if no lower one is; and
-- the nodes whose times are supported.
pub record IsJudged
    (roads : Roads)
    (answers : ℕ → ℕ → ℕ → ℕ → Type 0)
    (sources : List Source)
    (reported : List Said)
    (above : ℕ)
    (old new : Part)
    : Type 0 where
  pub same : new.arcs ≡ old.arcs
  pub found : (new.lowest ≡ above) ⊎ Improves roads answers sources (reported_time reported) new.lowest
  pub passed : PassedIn roads answers reported new.arcs new.lowest
  pub marks : AreSupported roads answers sources reported new.marks.items

-- Each part was judged.
abbrev pub AreJudged : Roads → (ℕ → ℕ → ℕ → ℕ → Type 0) → List Source → List Said → ℕ → List Part → List Part → Type 0
AreJudged roads answers sources reported above old new =
    (place : ℕ) (part : Part) → place < length old → IsJudged roads answers sources reported above (slice_index_or old place part) (slice_index_or new place part)

-- And there are as many as before.
abbrev pub AreAllJudged : Roads → (ℕ → ℕ → ℕ → ℕ → Type 0) → List Source → List Said → ℕ → List Part → List Part → Type 0
AreAllJudged roads answers sources reported above old new =
    AreJudged roads answers sources reported above old new × (length new ≡ length old)

-- The lowest of these nodes is this one.
pub record IsLowest (parts : List Part) (above lowest : ℕ) : Type 0 where
  pub lower : lowest ≤ above
  pub found : (lowest ≡ above) ⊎ ((place : ℕ) × (place < length parts) × ((part : Part) → (slice_index_or parts place part).lowest ≡ lowest))
  pub least : (place : ℕ) (part : Part) → place < length parts → lowest ≤ (slice_index_or parts place part).lowest

-- A node is marked in a part.
pub record IsMarkedIn (parts : List Part) (node : ℕ) : Type 0 where
  pub place : ℕ
  pub inside : place < length parts
  pub marked : (part : Part) → IsMarked (slice_index_or parts place part).marks.items node

-- The marks of parts were added.
pub record AreGathered (parts : List Part) (old new : List Bool) : Type 0 where
  pub places : length new ≡ length old
  pub only : (node : ℕ) → IsMarked new node → IsMarked old node ⊎ IsMarkedIn parts node
