-- What is known of each rank for one target: what is reached from it downward, and its bound once that is found.
use Rattle.std.specs.Prelude.{◌≡◌, ◌⊎◌, ℕ, ◌+◌, ◌-◌, ◌<◌, ◌≤◌, List, Contains, length, nat_le, nat_lt, slice_index, slice_index_or, if◌then◌else◌}
use Rattle.ea_hierarchy.specs.Hierarchies.{HasArc, IsFrom, IsLowest}
use Rattle.ea_hierarchy.specs.Numbers.{plus}
use Rattle.ea_hierarchy.specs.Potentials.{IsReach, potential}
use Rattle.ea_hierarchy.specs.Trimmed.{IsReplaced}
use Rattle.ea_hierarchy.specs.declared.cells.Aim.{Aim}
use Rattle.ea_hierarchy.specs.declared.cells.Cell.{Cell}
use Rattle.ea_hierarchy.specs.declared.trimmed.Link.{Link}
use Rattle.ea_hierarchy.specs.declared.numbers.TheConstants.{NONE}

-- The cell of a rank; a stale one if there is none.
abbrev pub cell_at : List Cell → ℕ → Cell
cell_at list rank = slice_index_or list rank (record { stamp = 0; reach = NONE; bound = NONE })

-- What is reached at a rank; if its cell is stale, nothing nearer than the end of the look.
abbrev pub reach_of : Aim → List Cell → ℕ → ℕ
reach_of aim list rank = if nat_le aim.stamp (cell_at list rank).stamp then (cell_at list rank).reach else aim.far

-- The bound in the cell of a rank. None above the highest rank that is reached is nearer than the end of the look.
abbrev pub bound_at : Aim → List Cell → ℕ → ℕ
bound_at aim list rank = if nat_lt aim.top rank then aim.far else (cell_at list rank).bound

-- No cell has a bound yet.
abbrev pub AreReached : ℕ → List Cell → Type 0
AreReached stamp list = (rank : ℕ) → (cell_at list rank).stamp ≤ stamp

-- All cells are stale.
abbrev pub AreStale : ℕ → List Cell → Type 0
AreStale stamp list = (rank : ℕ) → (cell_at list rank).stamp < stamp

-- The bound of a rank is found.
abbrev pub IsFinal : Aim → List Cell → ℕ → Type 0
IsFinal aim list rank = (aim.stamp < (cell_at list rank).stamp) ⊎ (aim.top < rank)

-- One rank is reached earlier, the others as before.
pub record LowersReach (aim : Aim) (list after : List Cell) (rank reach : ℕ) : Type 0 where
  pub count : length after ≡ length list
  pub reached : AreReached aim.stamp list → AreReached aim.stamp after
  pub here : (reach_of aim after rank ≤ reach_of aim list rank) × (reach_of aim after rank ≤ reach)
  pub others : (other : ℕ) → (other ≡ rank → ⊥) → reach_of aim after other ≡ reach_of aim list other

-- No rank is reached beyond the end of the look.
abbrev pub AreWithin : Aim → List Cell → Type 0
AreWithin aim list = (rank : ℕ) → reach_of aim list rank ≤ aim.far

-- No rank above this one is reached within.
abbrev pub IsHighest : Aim → List Cell → ℕ → Type 0
IsHighest aim list top = (rank : ℕ) → top < rank → reach_of aim list rank ≡ aim.far

-- Above the highest rank, which is no lower than before, the same is reached.
pub record IsSameAbove (aim : Aim) (list after : List Cell) (highest higher : ℕ) : Type 0 where
  pub rises : highest ≤ higher
  pub same : (other : ℕ) → higher < other → reach_of aim after other ≡ reach_of aim list other

-- The heads of the first links are reached from what is reached at their rank, none above the highest.
pub record RelaxesLinks (aim : Aim) (list after : List Cell) (links : List Link) (reach count highest : ℕ) : Type 0 where
  pub count_is : length after ≡ length list
  pub reached : AreReached aim.stamp list → AreReached aim.stamp after
  pub fall : (other : ℕ) → reach_of aim after other ≤ reach_of aim list other
  pub kept : (other : ℕ) → (reach_of aim after other ≡ reach_of aim list other) ⊎ ((link : Link) × Contains links link × (link.head ≡ other))
  pub over : (k : ℕ) (link : Link) → k < count → reach_of aim after (slice_index_or links k link).head ≤ plus (slice_index_or links k link).number reach
  pub above : (other : ℕ) → highest < other → reach_of aim after other ≡ reach_of aim list other

-- The heads of a rank are reached over its arcs, but for those that two others replace; none above the highest.
pub record RelaxesReach (firsts heads downs : List ℕ) (aim : Aim) (list after : List Cell) (rank to highest : ℕ) : Type 0 where
  pub count : length after ≡ length list
  pub reached : AreReached aim.stamp list → AreReached aim.stamp after
  pub fall : (other : ℕ) → reach_of aim after other ≤ reach_of aim list other
  pub kept : (other : ℕ) → (reach_of aim after other ≡ reach_of aim list other) ⊎ HasArc firsts heads rank other
  pub over : (place : ℕ) → IsFrom firsts rank place → place < to → (reach_of aim after (slice_index heads place) ≤ plus (slice_index downs place) (reach_of aim list rank)) ⊎ IsReplaced firsts heads downs rank place
  pub above : (other : ℕ) → highest < other → reach_of aim after other ≡ reach_of aim list other

-- What is reached from a target downward, before any bound is found.
pub record IsBegun (firsts heads downs : List ℕ) (target : ℕ) (aim : Aim) (list : List Cell) : Type 0 where
  pub few : aim.stamp ≤ 4294967282
  pub far_few : aim.far ≤ NONE
  pub count : length list ≡ length firsts - 1
  pub reached : AreReached aim.stamp list
  pub above : IsHighest aim list aim.top
  pub reach : IsReach (length firsts - 1) firsts heads downs target (reach_of aim list)

-- The bound that the cells have for a rank once it is found.
abbrev pub worth_of : List ℕ → List ℕ → List ℕ → Aim → List Cell → ℕ → ℕ
worth_of firsts heads ups aim list rank = potential firsts heads ups (reach_of aim list) (length firsts - 1) rank

-- Bounds that are found are the potentials, and with a rank's bound those of its heads are found.
pub record AreFound (firsts heads ups : List ℕ) (aim : Aim) (list : List Cell) : Type 0 where
  pub few : aim.stamp ≤ 4294967282
  pub far_few : aim.far ≤ NONE
  pub count : length list ≡ length firsts - 1
  pub stamps : AreReached (aim.stamp + 1) list
  pub above : IsHighest aim list aim.top
  pub final : (rank : ℕ) → rank < length firsts - 1 → IsFinal aim list rank → bound_at aim list rank ≡ worth_of firsts heads ups aim list rank
  pub closed : (rank place : ℕ) → rank < length firsts - 1 → IsFinal aim list rank → IsFrom firsts rank place → IsFinal aim list (slice_index heads place)

-- More bounds are found, and the same is reached.
pub record FindsMore (aim : Aim) (list after : List Cell) : Type 0 where
  pub reach : (rank : ℕ) → reach_of aim after rank ≡ reach_of aim list rank
  pub kept : (rank : ℕ) → IsFinal aim list rank → IsFinal aim after rank

-- Ranks of which each but the last has the next one as its lowest head.
pub record IsPath (firsts heads path : List ℕ) : Type 0 where
  pub below : (place : ℕ) → place < length path → slice_index path place < length firsts - 1
  pub parents : (place : ℕ) → place + 1 < length path → IsLowest firsts heads (slice_index path place) (slice_index path (place + 1))

-- The bound of the lowest head of the last rank is found, if it has one.
abbrev pub IsTopFound : List ℕ → List ℕ → Aim → List Cell → List ℕ → Type 0
IsTopFound firsts heads aim list path =
    (parent : ℕ) → 0 < length path → IsLowest firsts heads (slice_index path (length path - 1)) parent → IsFinal aim list parent

-- The path begins at a rank, or the bound of this rank is found.
abbrev pub IsWayFrom : Aim → List Cell → List ℕ → ℕ → Type 0
IsWayFrom aim list path rank = IsFinal aim list rank ⊎ ((0 < length path) × (slice_index path 0 ≡ rank))
