-- Travel times by trips, the departures of a line: a step has the time at which its trip leaves, in each period of the line, and
-- what its ride takes beside the weight. A period of 0 means none: `n % 0` is n, so each trip leaves once.
use Rattle.std.specs.Prelude.{◌≡◌, ◌⊎◌, ℕ, ◌+◌, ◌-◌, ◌%◌, ◌^◌, ◌<◌, ◌≤◌, List, length, min}
use Rattle.ea_base.specs.declared.limits.TheConstants.{HORIZON}
use Rattle.ea_travel_times.specs.Speeds.{never, time_at, value_at}

-- A trip leaves at a time, and its ride takes so much beside the weight.
pub record IsTrip (period : ℕ) (steps : List (ℕ × ℕ)) (time extra : ℕ) : Type 0 where
  pub place : ℕ
  pub found : place < length steps
  pub leaves : time_at steps place ≡ time % period
  pub takes : value_at steps place ≡ extra

-- The first trip that leaves at or after a departure.
pub record IsNextTrip (period : ℕ) (steps : List (ℕ × ℕ)) (departure time extra : ℕ) : Type 0 where
  pub not_before : departure ≤ time
  pub trip : IsTrip period steps time extra
  pub least : (other also : ℕ) → departure ≤ other → IsTrip period steps other also → time ≤ other

-- No trip leaves from a departure on within the horizon.
abbrev pub IsAfterLastTrip : ℕ → List (ℕ × ℕ) → ℕ → Type 0
IsAfterLastTrip period steps departure = (time extra : ℕ) → departure ≤ time → time ≤ HORIZON → IsTrip period steps time extra → ⊥

-- The arrival by trips: that of the first trip that leaves at or after the departure, but never after `never`.
abbrev pub IsArrivalByTrips : ℕ → List (ℕ × ℕ) → ℕ → ℕ → ℕ → Type 0
IsArrivalByTrips period steps weight departure arrival =
    ((time : ℕ) × (extra : ℕ) × IsNextTrip period steps departure time extra × (arrival ≡ min (time + weight + extra) never))
    ⊎ (IsAfterLastTrip period steps departure × (arrival ≡ never))

-- A step in range: when its trip leaves, and what its ride takes beside the weight.
pub record IsTripStep (step : ℕ × ℕ) : Type 0 where
  pub leaves : step.0 ≤ HORIZON
  pub takes : step.1 ≤ 2 ^ 32

-- The trips of a line: they ascend and stay below the period if there is one, and none arrives before an earlier one, also
-- from one period to the next.
pub record AreTrips (period : ℕ) (steps : List (ℕ × ℕ)) : Type 0 where
  pub period_to : period ≤ 2 ^ 32
  pub some : 0 < length steps
  pub ascend : (place : ℕ) → place + 1 < length steps → time_at steps place < time_at steps (place + 1)
  pub within : (place : ℕ) → place < length steps → 0 < period → time_at steps place < period
  pub leave : (place : ℕ) → place < length steps → time_at steps place ≤ HORIZON
  pub extra : (place : ℕ) → place < length steps → value_at steps place ≤ 2 ^ 32
  pub in_order : (place : ℕ) → place + 1 < length steps → time_at steps place + value_at steps place ≤ time_at steps (place + 1) + value_at steps (place + 1)
  pub turn : 0 < period → time_at steps (length steps - 1) + value_at steps (length steps - 1) ≤ period + time_at steps 0 + value_at steps 0
