-- What is kept of each class that has steps, for its least travel time.
use Rattle.std.specs.Prelude.{◌≡◌, ℕ, List, Some, slice_get, slice_index_or}
use Rattle.ea_base.specs.declared.timetable.RawKind.{RawKind}
use Rattle.ea_base.specs.declared.timetable.RawKind.TheVariants.{Speeds, Trips, Points}
use Rattle.ea_travel_times.specs.Lows.{IsGreatestValue, IsLeastValue}
use Rattle.ea_travel_times.specs.Timetables.{IsClass, run_of}

-- The greatest of a class's speeds, the least value of its trips or points.
abbrev pub IsExtreme : List (ℕ × ℕ) → RawKind → ℕ → Type 0
IsExtreme steps (Speeds period first count) value = IsGreatestValue (run_of steps first count) value
IsExtreme steps (Trips period first count) value = IsLeastValue (run_of steps first count) value
IsExtreme steps (Points period first count) value = IsLeastValue (run_of steps first count) value
IsExtreme steps kind value = Unit {0}

-- The class at a place is of this kind, and its extreme is at its place.
pub record IsClassAt (steps : List (ℕ × ℕ)) (extremes : List ℕ) (kind : RawKind) (place : ℕ) : Type 0 where
  pub fits : IsClass steps kind
  pub extreme : IsExtreme steps kind (slice_index_or extremes place 0)

-- The extremes of all classes, in their order.
pub record AreExtremes (kinds : List RawKind) (steps : List (ℕ × ℕ)) (extremes : List ℕ) : Type 0 where
  pub speeds : (place period first count : ℕ) → slice_get kinds place ≡ Some (Speeds period first count) → IsGreatestValue (run_of steps first count) (slice_index_or extremes place 0)
  pub trips : (place period first count : ℕ) → slice_get kinds place ≡ Some (Trips period first count) → IsLeastValue (run_of steps first count) (slice_index_or extremes place 0)
  pub points : (place period first count : ℕ) → slice_get kinds place ≡ Some (Points period first count) → IsLeastValue (run_of steps first count) (slice_index_or extremes place 0)
