-- The kinds of timetable.
use Rattle.std.specs.Prelude.{◌≡◌, ℕ, List, Some, IsTrue, length, slice_get, take, drop, ◌+◌, ◌%◌, ◌^◌, ◌<◌, ◌≤◌, max, Bool, true, false, ◌&&◌, nat_lt, nat_le, if◌then◌else◌}
use Rattle.ea_base.specs.declared.limits.TheConstants.{HORIZON}
use Rattle.ea_base.specs.declared.timetable.RawKind.{RawKind}
use Rattle.ea_travel_times.specs.Points.{ArePoints, IsArrivalByPoints}
use Rattle.ea_travel_times.specs.Speeds.{AreSpeeds, IsArrivalBySpeeds, speed_at}
use Rattle.ea_travel_times.specs.Trips.{AreTrips, IsArrivalByTrips}
use Rattle.ea_base.specs.declared.timetable.RawKind.TheVariants.{Plain, Every, Closed, Rush, Speeds, Trips, Points}

-- The ranges of the numbers of a kind that has no steps.
abbrev pub is_kind : RawKind → Bool
is_kind Plain = true
is_kind (Every period offset) = nat_le period (2 ^ 32) && nat_lt offset period
is_kind (Closed lo hi) = nat_lt lo hi && nat_le hi HORIZON
is_kind (Rush lo hi extra) = nat_lt lo hi && nat_le hi HORIZON && nat_le extra (2 ^ 32)
is_kind (Speeds period first count) = false
is_kind (Trips period first count) = false
is_kind (Points period first count) = false

-- The least time at or after the departure that leaves the offset when divided by the period.
pub record IsNextTime (period offset departure time : ℕ) : Type 0 where
  pub not_before : departure ≤ time
  pub on_offset : time % period ≡ offset
  pub least : (other : ℕ) → departure ≤ other → other % period ≡ offset → time ≤ other

-- The arrival of a kind that has no steps, for a weight and a departure.
abbrev pub KindAnswers : RawKind → ℕ → ℕ → ℕ → Type 0
KindAnswers Plain weight departure arrival = arrival ≡ departure + weight
KindAnswers (Every period offset) weight departure arrival =
    (time : ℕ) × IsNextTime period offset departure time × (arrival ≡ time + weight)
KindAnswers (Closed lo hi) weight departure arrival =
    arrival ≡ (if nat_le lo departure && nat_lt departure hi then hi + weight else departure + weight)
KindAnswers (Rush lo hi extra) weight departure arrival =
    arrival ≡ (if nat_lt departure lo then departure + weight else (if nat_lt departure hi then departure + weight + extra else max (departure + weight) (hi + weight + extra)))
KindAnswers (Speeds period first count) weight departure arrival = ⊥
KindAnswers (Trips period first count) weight departure arrival = ⊥
KindAnswers (Points period first count) weight departure arrival = ⊥

-- A kind has steps.
abbrev pub has_run : RawKind → Bool
has_run (Speeds period first count) = true
has_run (Trips period first count) = true
has_run (Points period first count) = true
has_run kind = false

-- The steps of a class: this many from one of them on.
abbrev pub run_of : List (ℕ × ℕ) → ℕ → ℕ → List (ℕ × ℕ)
run_of steps first count = take count (drop first steps)

-- The arrival of a kind, whose steps are among these, for a weight and a departure.
abbrev pub ClassAnswers : List (ℕ × ℕ) → RawKind → ℕ → ℕ → ℕ → Type 0
ClassAnswers steps (Speeds period first count) weight departure arrival =
    IsArrivalBySpeeds (speed_at (run_of steps first count) period) weight departure arrival
ClassAnswers steps (Trips period first count) weight departure arrival =
    IsArrivalByTrips period (run_of steps first count) weight departure arrival
ClassAnswers steps (Points period first count) weight departure arrival =
    IsArrivalByPoints period (run_of steps first count) weight departure arrival
ClassAnswers steps kind weight departure arrival = KindAnswers kind weight departure arrival

-- A kind that has steps, or whose numbers are in their ranges.
abbrev pub is_class : RawKind → Bool
is_class (Speeds period first count) = true
is_class (Trips period first count) = true
is_class (Points period first count) = true
is_class kind = is_kind kind

-- The condition of a kind whose steps are among these.
abbrev pub IsClass : List (ℕ × ℕ) → RawKind → Type 0
IsClass steps (Speeds period first count) = (first + count ≤ length steps) × AreSpeeds period (run_of steps first count)
IsClass steps (Trips period first count) = (first + count ≤ length steps) × AreTrips period (run_of steps first count)
IsClass steps (Points period first count) = (first + count ≤ length steps) × ArePoints period (run_of steps first count)
IsClass steps kind = IsTrue (is_kind kind)

-- A class above 0, that of a kind in the list.
pub record HasKind (kinds : List RawKind) (class : ℕ) : Type 0 where
  pub from_one : 0 < class
  pub to_last : class ≤ length kinds

-- Kinds whose numbers are in their ranges, with the steps of those that have some.
pub record AreFit (kinds : List RawKind) (steps : List (ℕ × ℕ)) : Type 0 where
  pub classes : (place : ℕ) (kind : RawKind) → slice_get kinds place ≡ Some kind → IsTrue (is_class kind)
  pub speeds : (place period first count : ℕ) → slice_get kinds place ≡ Some (Speeds period first count) → (first + count ≤ length steps) × AreSpeeds period (run_of steps first count)
  pub trips : (place period first count : ℕ) → slice_get kinds place ≡ Some (Trips period first count) → (first + count ≤ length steps) × AreTrips period (run_of steps first count)
  pub points : (place period first count : ℕ) → slice_get kinds place ≡ Some (Points period first count) → (first + count ≤ length steps) × ArePoints period (run_of steps first count)
