-- Travel times by points, the travel time functions of Batz, Geisberger, Sanders and Vetter (ACM Journal of Experimental Algorithmics 18,
-- 2013) in whole numbers: a point has a departure and what an arc takes then beside its weight, and between two points the function is the
-- straight line through them, rounded down. A period of 0 means none: `n % 0` is n.
use Rattle.std.specs.Prelude.{◌≡◌, ◌⊎◌, ℕ, ◌+◌, ◌-◌, ◌*◌, ◌/◌, ◌%◌, ◌^◌, ◌<◌, ◌≤◌, List, length}
use Rattle.ea_travel_times.specs.Speeds.{time_at, value_at}
use Rattle.ea_travel_times.specs.Trips.{AreTrips}

-- The straight line through two points, the second of which is later, rounded down.
abbrev pub line : ℕ → ℕ → ℕ → ℕ → ℕ → ℕ
line time value next_time next_value at = (value * (next_time - at) + next_value * (at - time)) / (next_time - time)

-- A point, and a later one in range.
pub record AreNextPoints (point next : ℕ × ℕ) : Type 0 where
  pub rises : point.0 < next.0
  pub within : next.0 ≤ 2 ^ 49
  pub small : next.1 ≤ 2 ^ 32

-- A time from a point to a later one, both in range.
pub record IsBetweenPoints (point next : ℕ × ℕ) (at : ℕ) : Type 0 where
  pub points : AreNextPoints point next
  pub value : point.1 ≤ 2 ^ 32
  pub from : point.0 ≤ at
  pub to : at ≤ next.0

-- A time lies between a point and the next one, and the value is that of the line through them.
pub record IsBetween (points : List (ℕ × ℕ)) (at value : ℕ) : Type 0 where
  pub place : ℕ
  pub found : place + 1 < length points
  pub not_before : time_at points place ≤ at
  pub below : at < time_at points (place + 1)
  pub is : value ≡ line (time_at points place) (value_at points place) (time_at points (place + 1)) (value_at points (place + 1)) at

-- A time is after the last point. With a period the first point follows the last one once more, a period later; else the value stays.
pub record IsAfterLast (period : ℕ) (points : List (ℕ × ℕ)) (at value : ℕ) : Type 0 where
  pub not_before : time_at points (length points - 1) ≤ at
  pub stays : period ≡ 0 → value ≡ value_at points (length points - 1)
  pub goes_on : 0 < period → value ≡ line (time_at points (length points - 1)) (value_at points (length points - 1)) (time_at points 0 + period) (value_at points 0) at

-- A time is before the first point. With a period the last point is before the first one, a period earlier: both are seen a period
-- later here. Else the value is the first one's.
pub record IsBeforeFirst (period : ℕ) (points : List (ℕ × ℕ)) (at value : ℕ) : Type 0 where
  pub below : at < time_at points 0
  pub stays : period ≡ 0 → value ≡ value_at points 0
  pub goes_on : 0 < period → value ≡ line (time_at points (length points - 1)) (value_at points (length points - 1)) (time_at points 0 + period) (value_at points 0) (at + period)

-- The value of the function through the points at a time of the period.
abbrev pub IsValue : ℕ → List (ℕ × ℕ) → ℕ → ℕ → Type 0
IsValue period points at value = IsBetween points at value ⊎ (IsAfterLast period points at value ⊎ IsBeforeFirst period points at value)

-- The arrival by points: after the weight and the value at the departure.
abbrev pub IsArrivalByPoints : ℕ → List (ℕ × ℕ) → ℕ → ℕ → ℕ → Type 0
IsArrivalByPoints period points weight departure arrival =
    (value : ℕ) × IsValue period points (departure % period) value × (arrival ≡ departure + weight + value)

-- The points of a function: in the ranges of trips, so that none lets who leaves later arrive earlier.
abbrev pub ArePoints : ℕ → List (ℕ × ℕ) → Type 0
ArePoints period points = AreTrips period points
