-- The upward arcs of the first ranks, while those of the others aren't made.
use Rattle.std.specs.Prelude.{◌≡◌, ℕ, ◌+◌, ◌-◌, ◌<◌, ◌≤◌, List, drop, length, slice_index, take}
use Rattle.ea_road.specs.Roads.{IsArc, Roads}
use Rattle.ea_road.specs.declared.arc.Arc.{Arc}
use Rattle.ea_hierarchy.specs.Hierarchies.{AreLowestHeads, HasArc, IsFrom, Joins, rank_of}
use Rattle.ea_hierarchy.specs.Waiting.{AreWaiting}
use Rattle.ea_hierarchy.specs.declared.upward.Growing.{Growing}

-- A network's arc joins two ranks.
pub record IsOverArc (lows highs : List ℕ) (low high : ℕ) : Type 0 where
  pub place : ℕ
  pub inside : place < length lows
  pub low_is : slice_index lows place ≡ low
  pub high_is : slice_index highs place ≡ high

-- A child of a rank has an upward arc to another.
pub record IsOverChild (firsts heads parents : List ℕ) (low high : ℕ) : Type 0 where
  pub child : ℕ
  pub inside : child < length parents
  pub parent : slice_index parents child ≡ low
  pub arc : HasArc firsts heads child high

-- The heads of a rank's upward arcs.
abbrev pub heads_of : List ℕ → List ℕ → ℕ → List ℕ
heads_of firsts heads rank = take (slice_index firsts (rank + 1) - slice_index firsts rank) (drop (slice_index firsts rank) heads)

-- The arcs of the first ranks lead upward, by ascending heads.
pub record AreAbove (nodes made : ℕ) (firsts heads : List ℕ) : Type 0 where
  pub count : length firsts ≡ made + 1
  pub last : slice_index firsts made ≡ length heads
  pub within : (rank : ℕ) → rank ≤ made → slice_index firsts rank ≤ length heads
  pub rises : (rank : ℕ) → rank < made → slice_index firsts rank ≤ slice_index firsts (rank + 1)
  pub upward : (rank place : ℕ) → rank < made → IsFrom firsts rank place → (rank < slice_index heads place) × (slice_index heads place < nodes)
  pub ascend : (rank place later : ℕ) → rank < made → IsFrom firsts rank place → IsFrom firsts rank later → place < later → slice_index heads place < slice_index heads later

-- Each of the first ranks has upward arcs over the network's arcs, and to the other heads of its children.
pub record AreMade (made : ℕ) (lows highs firsts heads : List ℕ) : Type 0 where
  pub arcs : (low high : ℕ) → low < made → low < high → IsOverArc lows highs low high → HasArc firsts heads low high
  pub handed : (rank place : ℕ) → rank < made → IsFrom firsts rank place → slice_index firsts rank < place → slice_index heads (slice_index firsts rank) < made
      → HasArc firsts heads (slice_index heads (slice_index firsts rank)) (slice_index heads place)

-- The first ranks have their arcs, and wait at their parents.
pub record IsGrowing (nodes made : ℕ) (growing : Growing) : Type 0 where
  pub above : AreAbove nodes made growing.upward.firsts.items growing.upward.heads.items
  pub parents : AreLowestHeads growing.upward.firsts.items growing.upward.heads.items growing.upward.parents.items
  pub room : length growing.children.newest.items ≡ nodes
  pub count : length growing.children.earlier.items ≡ made
  pub waiting : AreWaiting growing.upward.parents.items growing.children.newest.items growing.children.earlier.items

-- The arcs of a network have upward arcs.
pub record IsJoined (ranks firsts heads : List ℕ) (arc : Arc) : Type 0 where
  pub up : rank_of ranks arc.tail < rank_of ranks arc.head → (place : ℕ) × Joins firsts heads (rank_of ranks arc.tail) (rank_of ranks arc.head) place
  pub down : rank_of ranks arc.head < rank_of ranks arc.tail → (place : ℕ) × Joins firsts heads (rank_of ranks arc.head) (rank_of ranks arc.tail) place

abbrev pub AreJoined : Roads → List ℕ → List ℕ → List ℕ → Type 0
AreJoined roads ranks firsts heads = (number : ℕ) (arc : Arc) → IsArc roads number arc → IsJoined ranks firsts heads arc
