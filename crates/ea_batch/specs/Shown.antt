-- The nodes that the report of a problem shows.
use Rattle.std.specs.Prelude.{◌≡◌, ◌⊎◌, ℕ, ◌≤◌, ◌<◌, ◌*◌, List, Option, Some, None, Contains}
use Rattle.ea_batch.specs.declared.searching.TheConstants.{FEW, PART}
use Rattle.ea_road.specs.Queries.{Asking}

-- A pair's target; else the chosen nodes or, if none are chosen, all.
abbrev pub IsShownOf : Option (List ℕ) → Option ℕ → ℕ → Type 0
IsShownOf chosen (Some target) node = node ≡ target
IsShownOf None None node = Unit {0}
IsShownOf (Some nodes) None node = Contains nodes node

abbrev pub IsShownIn : Option (List ℕ) → Asking → ℕ → Type 0
IsShownIn chosen query node = IsShownOf chosen query.target node

-- So few chosen nodes that they are searched for alone: up to `FEW`, or one in `PART` of the network's.
abbrev pub AreFew : ℕ → ℕ → Type 0
AreFew nodes count = (count ≤ FEW) ⊎ (count * PART ≤ nodes)

-- More than that.
abbrev pub AreMany : ℕ → ℕ → Type 0
AreMany nodes count = (FEW < count) × (nodes < count * PART)
