-- Sources in the order of the binary search.
use Rattle.std.specs.Prelude.{◌≡◌, ◌⊎◌, ℕ, ◌<◌, ◌≤◌, List, length, slice_index_or}
use Rattle.std.specs.List.{IsAmong}
use Rattle.ea_road.specs.declared.source.Source.{Source}
use Rattle.ea_check.specs.declared.judge.walk_sources.Side.{Side}
use Rattle.ea_check.specs.declared.judge.walk_sources.Side.TheVariants.{Before, Here, Beyond}

-- A lower node, or the same node and a departure no later.
abbrev pub Precedes : Source → Source → Type 0
Precedes source other = (source.node < other.node) ⊎ ((source.node ≡ other.node) × (source.departure ≤ other.departure))

-- The same sources, ordered by node and departure.
pub record AreOrdered (sources ordered : List Source) : Type 0 where
  pub in_order : (place later : ℕ) (default : Source) → place ≤ later → later < length ordered → Precedes (slice_index_or ordered place default) (slice_index_or ordered later default)
  pub there : (source : Source) → IsAmong sources source → IsAmong ordered source
  pub back : (source : Source) → IsAmong ordered source → IsAmong sources source

-- On which side of a source those lie that may attain a time.
abbrev pub IsBeside : (Source → Type 0) → Source → Side → Type 0
IsBeside Attains source Here = Attains source
IsBeside Attains source Before = (other : Source) → Precedes other source → Attains other → ⊥
IsBeside Attains source Beyond = (other : Source) → Precedes source other → Attains other → ⊥
