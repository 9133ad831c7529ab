-- Least travel times bound the arrivals.
use Rattle.std.proofs.Common.{◌≡◌, ℕ, zero, suc, ◌+◌, ◌-◌, ◌*◌, ◌/◌, ◌%◌, ◌<◌, ◌≤◌, ◌⊎◌, inl, inr, true, false, arith, List, [], ◌∷◌, length}
use Rattle.std.specs.Prelude.{nat_le, if◌then◌else◌}
use Rattle.std.proofs.Math.Nat.{lt-div-mul-add, mul-le-mul_left}
use Rattle.std.proofs.lemmas.Nat.{mod_below}
use Rattle.std.proofs.lemmas.Bool.Decides.{leb_tells, nat_tests}
use Rattle.ea_base.specs.declared.limits.TheConstants.{HORIZON}
use Rattle.ea_base.specs.declared.timetable.RawKind.{RawKind}
use Rattle.ea_base.specs.declared.timetable.RawKind.TheVariants.{Plain, Every, Closed, Rush, Speeds, Trips, Points}
use Rattle.ea_travel_times.specs.Lows.{ClassLow, IsGreatestValue, IsLeastTimes, IsLeastValue, IsLowerBound, TimetablesLow}
use Rattle.ea_travel_times.specs.Points.{ArePoints, IsArrivalByPoints, IsValue, line}
use Rattle.ea_travel_times.specs.Speeds.{IsArrivalBySpeeds, last_value, speed_at, speed_sum, time_at, value_at}
use Rattle.ea_travel_times.specs.TimetableLists.{TimetablesAnswer, kind_of}
use Rattle.ea_travel_times.specs.Timetables.{ClassAnswers, IsClass, KindAnswers, run_of}
use Rattle.ea_travel_times.specs.Trips.{IsArrivalByTrips}

closed_takes : (lo hi weight departure arrival : ℕ) → KindAnswers (Closed lo hi) weight departure arrival → departure + weight ≤ arrival
closed_takes lo hi weight departure arrival answer = grind (arith, nat_tests)

rush_takes : (lo hi extra weight departure arrival : ℕ) → KindAnswers (Rush lo hi extra) weight departure arrival → departure + weight ≤ arrival
rush_takes lo hi extra weight departure arrival answer = grind (arith, nat_tests)

kind_takes : (kind : RawKind) (weight departure arrival : ℕ) → KindAnswers kind weight departure arrival → departure + weight ≤ arrival
kind_takes Plain weight departure arrival answer = omega arith
kind_takes (Every period offset) weight departure arrival answer = omega (arith, answer.1.not_before, answer.2)
kind_takes (Closed lo hi) weight departure arrival answer = closed_takes lo hi weight departure arrival answer
kind_takes (Rush lo hi extra) weight departure arrival answer = rush_takes lo hi extra weight departure arrival answer
kind_takes (Speeds period first count) weight departure arrival answer = absurd answer
kind_takes (Trips period first count) weight departure arrival answer = absurd answer
kind_takes (Points period first count) weight departure arrival answer = absurd answer

-- ---- speeds

-- the last value is one of the steps, or the one given
last_below : (steps : List (ℕ × ℕ)) (value time most : ℕ) → value ≤ most → ((place : ℕ) → place < length steps → value_at steps place ≤ most) → last_value value steps time ≤ most
last_below [] value time most low each = low
last_below (step ∷ steps) value time most low each =
    last_below steps (if nat_le step.0 time then step.1 else value) time most (head (leb_tells step.0 time)) (λ place inside. each (suc place) (omega (arith, inside)))
  where
    head : ((nat_le step.0 time ≡ true) × (step.0 ≤ time)) ⊎ ((nat_le step.0 time ≡ false) × (time < step.0)) → (if nat_le step.0 time then step.1 else value) ≤ most
    head (inl is) = rw is.0 (each 0 (omega arith))
    head (inr is) = rw is.0 low

sum_below : (speed : ℕ → ℕ) (most from count : ℕ) → ((time : ℕ) → speed time ≤ most) → speed_sum speed from count ≤ count * most
sum_below speed most from zero each = omega arith
sum_below speed most from (suc count) each =
    let product : suc count * most ≡ count * most + most = omega arith in
    omega (arith, sum_below speed most from count each, each (from + count), product)

speeds_take : (steps : List (ℕ × ℕ)) (period most weight low departure arrival : ℕ) → IsGreatestValue steps most → IsLeastTimes most weight low → arrival ≤ HORIZON → IsArrivalBySpeeds (speed_at steps period) weight departure arrival → departure + low ≤ arrival
speeds_take steps period most weight low departure arrival greatest is within answer =
    let passed = answer.passed (omega (arith, within)) in
    let few = sum_below (speed_at steps period) most departure (arrival - departure) (λ time. last_below steps 0 (time % period) most (omega arith) greatest.greatest) in
    let bound = is.least (arrival - departure) (omega (arith, passed, few)) in
    omega (arith, bound, answer.not_before)

-- ---- trips

trips_take : (steps : List (ℕ × ℕ)) (period extra weight departure arrival : ℕ) → IsLeastValue steps extra → arrival ≤ HORIZON → IsArrivalByTrips period steps weight departure arrival → departure + (weight + extra) ≤ arrival
trips_take steps period extra weight departure arrival least within (inl answer) =
    let trip = answer.2.trip in
    let more = least.least trip.place trip.found in
    omega (arith, more, trip.takes, answer.2.not_before, answer.3)
trips_take steps period extra weight departure arrival least within (inr answer) = absurd (omega (arith, within, answer.1))

-- ---- points

-- what is between two values is at least the less of them
between_least : (x y a b least : ℕ) → least ≤ x → least ≤ y → 0 < a + b → least ≤ (x * a + y * b) / (a + b)
between_least x y a b least first next some = elim (leb_tells least ((x * a + y * b) / (a + b))) [
  | inl is ↦ is.1
  | inr few ↦
      let above = lt-div-mul-add {a = x * a + y * b} {b = a + b} some in
      let left = mul-le-mul_left {m = least} {n = x} a first in
      let right = mul-le-mul_left {m = least} {n = y} b next in
      let more = mul-le-mul_left {m = (x * a + y * b) / (a + b) + 1} {n = least} (a + b) (omega (arith, few.1)) in
      let product : (a + b) * ((x * a + y * b) / (a + b) + 1) ≡ (a + b) * ((x * a + y * b) / (a + b)) + (a + b) = omega arith in
      let whole : (a + b) * least ≡ a * least + b * least = omega arith in
      absurd (omega (arith, above, left, right, more, product, whole))
]

line_least : (time value next next_value at least : ℕ) → least ≤ value → least ≤ next_value → time < next → time ≤ at → at ≤ next → least ≤ line time value next next_value at
line_least time value next next_value at least first last rises from to =
    let whole : next - time ≡ (next - at) + (at - time) = omega (arith, from, to) in
    rw whole (between_least value next_value (next - at) (at - time) least first last (omega (arith, rises, whole)))

value_least : (points : List (ℕ × ℕ)) (period at value least : ℕ) → ArePoints period points → (0 < period → at < period) → ((place : ℕ) → place < length points → least ≤ value_at points place) → IsValue period points at value → least ≤ value
value_least points period at value least are within each (inl is) =
    let few = line_least (time_at points is.place) (value_at points is.place) (time_at points (is.place + 1)) (value_at points (is.place + 1)) at least (each is.place (omega (arith, is.found))) (each (is.place + 1) is.found) (are.ascend is.place is.found) is.not_before (omega (arith, is.below)) in
    omega (arith, few, is.is)
value_least points period at value least are within each (inr (inl is)) =
    let last : length points - 1 < length points = let some = are.some in omega arith in
    elim (leb_tells 1 period) [
      | inl turns ↦
          let from = are.within (length points - 1) last turns.1 in
          let until = within turns.1 in
          let few = line_least (time_at points (length points - 1)) (value_at points (length points - 1)) (time_at points 0 + period) (value_at points 0) at least (each (length points - 1) last) (each 0 are.some) (omega (arith, from)) is.not_before (omega (arith, until)) in
          omega (arith, few, is.goes_on turns.1)
      | inr none ↦ omega (arith, each (length points - 1) last, is.stays (omega (arith, none.1)))
    ]
value_least points period at value least are within each (inr (inr is)) =
    let last : length points - 1 < length points = let some = are.some in omega arith in
    elim (leb_tells 1 period) [
      | inl turns ↦
          let from = are.within (length points - 1) last turns.1 in
          let few = line_least (time_at points (length points - 1)) (value_at points (length points - 1)) (time_at points 0 + period) (value_at points 0) (at + period) least (each (length points - 1) last) (each 0 are.some) (omega (arith, from)) (omega (arith, from)) (omega (arith, is.below)) in
          omega (arith, few, is.goes_on turns.1)
      | inr none ↦ omega (arith, each 0 are.some, is.stays (omega (arith, none.1)))
    ]

points_take : (points : List (ℕ × ℕ)) (period extra weight departure arrival : ℕ) → ArePoints period points → IsLeastValue points extra → IsArrivalByPoints period points weight departure arrival → departure + (weight + extra) ≤ arrival
points_take points period extra weight departure arrival are least answer =
    let more = value_least points period (departure % period) answer.0 extra are (λ turns. mod_below departure period turns) least.least answer.1 in
    omega (arith, more, answer.2)

-- ---- classes

class_takes : (steps : List (ℕ × ℕ)) (kind : RawKind) (weight low departure arrival : ℕ) → IsClass steps kind → ClassLow steps kind weight low → arrival ≤ HORIZON → ClassAnswers steps kind weight departure arrival → departure + low ≤ arrival
class_takes steps Plain weight low departure arrival fits is within answer = omega (arith, is, kind_takes Plain weight departure arrival answer)
class_takes steps (Every period offset) weight low departure arrival fits is within answer = omega (arith, is, kind_takes (Every period offset) weight departure arrival answer)
class_takes steps (Closed lo hi) weight low departure arrival fits is within answer = omega (arith, is, kind_takes (Closed lo hi) weight departure arrival answer)
class_takes steps (Rush lo hi extra) weight low departure arrival fits is within answer = omega (arith, is, kind_takes (Rush lo hi extra) weight departure arrival answer)
class_takes steps (Speeds period first count) weight low departure arrival fits is within answer =
    speeds_take (run_of steps first count) period is.0 weight low departure arrival is.1 is.2 within answer
class_takes steps (Trips period first count) weight low departure arrival fits is within answer =
    omega (arith, trips_take (run_of steps first count) period is.0 weight departure arrival is.1 within answer, is.2)
class_takes steps (Points period first count) weight low departure arrival fits is within answer =
    omega (arith, points_take (run_of steps first count) period is.0 weight departure arrival fits.1 is.1 answer, is.2)

-- the least travel time of a class bounds its arrivals
pub class_low_bounds : (kinds : List RawKind) (steps : List (ℕ × ℕ)) (class weight low : ℕ) → IsClass steps (kind_of kinds class) → TimetablesLow kinds steps class weight low → IsLowerBound (TimetablesAnswer kinds steps) class weight low
class_low_bounds kinds steps class weight low fits is = record {
  bounds = λ departure arrival from within answer. class_takes steps (kind_of kinds class) weight low departure arrival fits is within answer;
}
