-- Numbers that wait at ranks until the upward arcs of these are made. Numbers count from 1, their places in lists from 0.
use Rattle.std.specs.Prelude.{◌≡◌, ℕ, ◌-◌, ◌<◌, ◌≤◌, All, Contains, List, length, map, max, min, slice_index}
use Rattle.ea_road.specs.Roads.{Roads}
use Rattle.ea_road.specs.declared.arc.Arc.{Arc}
use Rattle.ea_hierarchy.specs.Hierarchies.{rank_of}

-- The lower and the higher of the ranks of an arc's ends.
abbrev pub lower_end : List ℕ → Arc → ℕ
lower_end ranks arc = min (rank_of ranks arc.tail) (rank_of ranks arc.head)

abbrev pub higher_end : List ℕ → Arc → ℕ
higher_end ranks arc = max (rank_of ranks arc.tail) (rank_of ranks arc.head)

-- Those of a list of arcs.
abbrev pub lower_ends : List ℕ → List Arc → List ℕ
lower_ends ranks arcs = map (lower_end ranks) arcs

abbrev pub higher_ends : List ℕ → List Arc → List ℕ
higher_ends ranks arcs = map (higher_end ranks) arcs

-- A list says at which rank each number waits. The newest of a rank and those before it, as far as there are any, are all that wait there.
pub record AreWaiting (lows newest earlier : List ℕ) : Type 0 where
  pub within : (rank : ℕ) → slice_index newest rank ≤ length earlier
  pub falls : (place : ℕ) → slice_index earlier place ≤ place
  pub newest_there : (rank : ℕ) → 0 < slice_index newest rank → slice_index lows (slice_index newest rank - 1) ≡ rank
  pub earlier_there : (place : ℕ) → 0 < slice_index earlier place → slice_index lows (slice_index earlier place - 1) ≡ slice_index lows place
  pub none_newer : (place : ℕ) → place < length earlier → slice_index lows place < length newest → place < slice_index newest (slice_index lows place)
  pub none_between : (place later : ℕ) → place < later → later < length earlier → slice_index lows place ≡ slice_index lows later → slice_index lows place < length newest
      → place < slice_index earlier later

-- The arcs of a network wait at the lower of their ends.
pub record AreArcsWaiting (roads : Roads) (ranks newest earlier : List ℕ) : Type 0 where
  pub room : length newest ≡ roads.nodes
  pub count : length earlier ≡ length roads.arcs
  pub waiting : AreWaiting (lower_ends ranks roads.arcs) newest earlier

-- Numbers are put into a list: all of a kind, and none that isn't below the number of nodes.
pub record Finds (nodes : ℕ) (IsWanted : ℕ → Type 0) (before after : List ℕ) : Type 0 where
  pub kept : (number : ℕ) → Contains before number → Contains after number
  pub all : (number : ℕ) → IsWanted number → Contains after number
  pub below : All (λ number. number < nodes) before → All (λ number. number < nodes) after

-- The numbers of a list that are above a rank, each once and ascending, are put after others.
pub record Appends (list : List ℕ) (rank : ℕ) (before after : List ℕ) : Type 0 where
  pub long : length before ≤ length after
  pub old : (place : ℕ) → place < length before → slice_index after place ≡ slice_index before place
  pub above : (place : ℕ) → length before ≤ place → place < length after → rank < slice_index after place
  pub ascend : (place later : ℕ) → length before ≤ place → place < later → later < length after → slice_index after place < slice_index after later
  pub of_list : (place : ℕ) → length before ≤ place → place < length after → (from : ℕ) × (from < length list) × (slice_index list from ≡ slice_index after place)
  pub all : (from : ℕ) → from < length list → rank < slice_index list from → (place : ℕ) × (length before ≤ place) × (place < length after) × (slice_index after place ≡ slice_index list from)
