-- Least travel times: what an arc takes at the least, whenever it is left.
use Rattle.std.specs.Prelude.{◌≡◌, ℕ, ◌+◌, ◌*◌, ◌<◌, ◌≤◌, List, length}
use Rattle.ea_base.specs.declared.limits.TheConstants.{HORIZON}
use Rattle.ea_base.specs.declared.timetable.RawKind.{RawKind}
use Rattle.ea_base.specs.declared.timetable.RawKind.TheVariants.{Speeds, Trips, Points}
use Rattle.ea_travel_times.specs.Speeds.{value_at}
use Rattle.ea_travel_times.specs.TimetableLists.{kind_of}
use Rattle.ea_travel_times.specs.Timetables.{run_of}

-- No arrival within the horizon is sooner than so much after its departure.
pub record IsLowerBound (answers : ℕ → ℕ → ℕ → ℕ → Type 0) (class weight low : ℕ) : Type 0 where
  pub bounds : (departure arrival : ℕ) → departure ≤ HORIZON → arrival ≤ HORIZON → answers class weight departure arrival → departure + low ≤ arrival

-- The least value of steps, and the greatest.
pub record IsLeastValue (steps : List (ℕ × ℕ)) (value : ℕ) : Type 0 where
  pub of_one : ((place : ℕ) → place < length steps → value < value_at steps place) → ⊥
  pub least : (other : ℕ) → other < length steps → value ≤ value_at steps other

pub record IsGreatestValue (steps : List (ℕ × ℕ)) (value : ℕ) : Type 0 where
  pub of_one : ((place : ℕ) → place < length steps → value_at steps place < value) → ⊥
  pub greatest : (other : ℕ) → other < length steps → value_at steps other ≤ value

-- The least number of times in which a speed makes up a thousand times the weight.
pub record IsLeastTimes (speed weight low : ℕ) : Type 0 where
  pub enough : 1000 * weight ≤ low * speed
  pub least : (other : ℕ) → 1000 * weight ≤ other * speed → low ≤ other

-- The least travel time of a kind: by speeds at the greatest of them, by trips and points with the least value beside the weight, and
-- the weight of the others.
abbrev pub ClassLow : List (ℕ × ℕ) → RawKind → ℕ → ℕ → Type 0
ClassLow steps (Speeds period first count) weight low =
    (speed : ℕ) × IsGreatestValue (run_of steps first count) speed × IsLeastTimes speed weight low
ClassLow steps (Trips period first count) weight low =
    (extra : ℕ) × IsLeastValue (run_of steps first count) extra × (low ≡ weight + extra)
ClassLow steps (Points period first count) weight low =
    (extra : ℕ) × IsLeastValue (run_of steps first count) extra × (low ≡ weight + extra)
ClassLow steps kind weight low = low ≡ weight

abbrev pub TimetablesLow : List RawKind → List (ℕ × ℕ) → ℕ → ℕ → ℕ → Type 0
TimetablesLow kinds steps class weight low = ClassLow steps (kind_of kinds class) weight low
