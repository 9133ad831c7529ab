-- Upward arcs over the ranks of nodes: those from each rank lie side by side, by ascending heads, and each has two numbers, one for each
-- direction. Ranks and places count from 0.
use Rattle.std.specs.Prelude.{◌≡◌, ◌≢◌, ℕ, ◌+◌, ◌-◌, ◌^◌, ◌<◌, ◌≤◌, List, length, min, slice_index}
use Rattle.ea_road.specs.declared.arc.Arc.{Arc}
use Rattle.ea_hierarchy.specs.Numbers.{plus}
use Rattle.ea_hierarchy.specs.declared.numbers.TheConstants.{MOST, NONE}

-- The rank of a node.
abbrev pub rank_of : List ℕ → ℕ → ℕ
rank_of ranks node = slice_index ranks (node - 1)

-- Each node has a rank.
pub record AreRanks (nodes : ℕ) (ranks : List ℕ) : Type 0 where
  pub count : length ranks ≡ nodes
  pub below : (place : ℕ) → place < nodes → slice_index ranks place < nodes

-- The upward arc at a place is one of those from a rank.
pub record IsFrom (firsts : List ℕ) (rank place : ℕ) : Type 0 where
  pub from : slice_index firsts rank ≤ place
  pub before : place < slice_index firsts (rank + 1)

-- The upward arc at a place leads from a rank to another.
pub record Joins (firsts heads : List ℕ) (low high place : ℕ) : Type 0 where
  pub is_from : IsFrom firsts low place
  pub head : slice_index heads place ≡ high

-- Arcs lead upward, by ascending heads, and two heads of a rank are joined by an arc.
pub record IsUpward (nodes : ℕ) (firsts heads : List ℕ) : Type 0 where
  pub count : length firsts ≡ nodes + 1
  pub within : (rank : ℕ) → rank ≤ nodes → slice_index firsts rank ≤ length heads
  pub rises : (rank : ℕ) → rank < nodes → slice_index firsts rank ≤ slice_index firsts (rank + 1)
  pub upward : (rank place : ℕ) → rank < nodes → IsFrom firsts rank place → (rank < slice_index heads place) × (slice_index heads place < nodes)
  pub ascend : (rank place later : ℕ) → rank < nodes → IsFrom firsts rank place → IsFrom firsts rank later → place < later → slice_index heads place < slice_index heads later
  pub chordal : (rank place later : ℕ) → rank < nodes → IsFrom firsts rank place → IsFrom firsts rank later → place < later
      → (joining : ℕ) × Joins firsts heads (slice_index heads place) (slice_index heads later) joining

-- A rank has another as its lowest head.
pub record IsLowest (firsts heads : List ℕ) (rank parent : ℕ) : Type 0 where
  pub some : slice_index firsts rank < slice_index firsts (rank + 1)
  pub is : slice_index heads (slice_index firsts rank) ≡ parent

-- The parent of a rank is its lowest head, `NONE` if it has no arc.
pub record IsParent (firsts heads : List ℕ) (rank parent : ℕ) : Type 0 where
  pub lowest : parent ≢ NONE → IsLowest firsts heads rank parent
  pub none : parent ≡ NONE → (head : ℕ) → IsLowest firsts heads rank head → ⊥

-- The parents of all ranks.
pub record AreLowestHeads (firsts heads parents : List ℕ) : Type 0 where
  pub count : length parents ≡ length firsts - 1
  pub each : (rank : ℕ) → rank < length firsts - 1 → IsParent firsts heads rank (slice_index parents rank)

-- The parent of a rank is this far above it, unless the distance is 0.
abbrev pub IsParentAbove : List ℕ → List ℕ → ℕ → ℕ → Type 0
IsParentAbove firsts heads rank distance = 0 < distance → IsLowest firsts heads rank (rank + distance)

-- The distances to the parents of all ranks.
pub record AreParents (firsts heads distances : List ℕ) : Type 0 where
  pub count : length distances ≡ length firsts - 1
  pub each : (rank : ℕ) → rank < length firsts - 1 → IsParentAbove firsts heads rank (slice_index distances rank)

-- An upward arc leads from a rank to another.
abbrev pub HasArc : List ℕ → List ℕ → ℕ → ℕ → Type 0
HasArc firsts heads low high = (place : ℕ) × Joins firsts heads low high place

-- The same of as many ranks as there are places of first arcs.
abbrev pub AreUpward : List ℕ → List ℕ → Type 0
AreUpward firsts heads = IsUpward (length firsts - 1) firsts heads

-- The numbers at upward arcs, for walks up and for walks down.
pub record AreNumbers (heads ups downs : List ℕ) : Type 0 where
  pub upward : length ups ≡ length heads
  pub downward : length downs ≡ length heads

-- Over the lower end of two arcs there is no shorter way than over the arc that joins their heads.
pub record IsTriangle (firsts heads ups downs : List ℕ) (place later joining : ℕ) : Type 0 where
  pub joins : Joins firsts heads (slice_index heads place) (slice_index heads later) joining
  pub up : slice_index ups joining ≤ plus (slice_index downs place) (slice_index ups later)
  pub down : slice_index downs joining ≤ plus (slice_index downs later) (slice_index ups place)

-- Those over an arc of a rank and the later ones of this rank before a place.
abbrev pub AreOver : List ℕ → List ℕ → List ℕ → List ℕ → ℕ → ℕ → ℕ → Type 0
AreOver firsts heads ups downs rank place to =
    (later : ℕ) → IsFrom firsts rank later → place < later → later < to → (joining : ℕ) × IsTriangle firsts heads ups downs place later joining

abbrev pub AreTriangles : ℕ → List ℕ → List ℕ → List ℕ → List ℕ → Type 0
AreTriangles nodes firsts heads ups downs =
    (rank place later : ℕ) → rank < nodes → IsFrom firsts rank place → IsFrom firsts rank later → place < later
    → (joining : ℕ) × IsTriangle firsts heads ups downs place later joining

-- Numbers fall, those before a place stay.
pub record Lowers (from : ℕ) (ups downs new_ups new_downs : List ℕ) : Type 0 where
  pub upward : length new_ups ≡ length ups
  pub downward : length new_downs ≡ length downs
  pub stay : (place : ℕ) → place < from → (slice_index new_ups place ≡ slice_index ups place) × (slice_index new_downs place ≡ slice_index downs place)
  pub fall : (place : ℕ) → (slice_index new_ups place ≤ slice_index ups place) × (slice_index new_downs place ≤ slice_index downs place)

-- The number of an arc's direction is at most its least travel time.
pub record IsCovered (ranks firsts heads ups downs : List ℕ) (arc : Arc) (low : ℕ) : Type 0 where
  pub up : rank_of ranks arc.tail < rank_of ranks arc.head
      → (place : ℕ) × Joins firsts heads (rank_of ranks arc.tail) (rank_of ranks arc.head) place × (slice_index ups place ≤ min low MOST)
  pub down : rank_of ranks arc.head < rank_of ranks arc.tail
      → (place : ℕ) × Joins firsts heads (rank_of ranks arc.head) (rank_of ranks arc.tail) place × (slice_index downs place ≤ min low MOST)

-- A preparation: the ranks of the nodes, and upward arcs with their numbers.
pub record Hierarchy : Type 0 where
  pub ranks : List ℕ
  pub firsts : List ℕ
  pub heads : List ℕ
  pub ups : List ℕ
  pub downs : List ℕ

-- What each preparation keeps, whatever the order of its nodes.
pub record IsHierarchy (hierarchy : Hierarchy) : Type 0 where
  pub few : length hierarchy.firsts < 2 ^ 32
  pub ranks : AreRanks (length hierarchy.firsts - 1) hierarchy.ranks
  pub upward : AreUpward hierarchy.firsts hierarchy.heads
  pub numbers : AreNumbers hierarchy.heads hierarchy.ups hierarchy.downs
  pub triangles : AreTriangles (length hierarchy.firsts - 1) hierarchy.firsts hierarchy.heads hierarchy.ups hierarchy.downs
