-- A class among those of a list of timetables.
use Rattle.std.proofs.Common.{◌≡◌, false, ℕ, ◌+◌, ◌<◌, ◌≤◌, refl, sym, subst, arith, List, [], ◌∷◌, length, zero, suc, drop, length-take, length-drop, get_or}
use Rattle.std.specs.Prelude.{IsTrue, Some, slice_get}
use Rattle.std.specs.List.{IsAmong}
use Rattle.ea_base.specs.declared.timetable.RawKind.{RawKind}
use Rattle.ea_base.specs.declared.timetable.RawKind.TheVariants.{Plain, Every, Closed, Rush, Speeds, Trips, Points}
use Rattle.ea_travel_times.specs.Points.{ArePoints, IsArrivalByPoints}
use Rattle.ea_travel_times.specs.Speeds.{AreSpeeds, IsArrivalBySpeeds, speed_at}
use Rattle.ea_travel_times.specs.TimetableLists.{kind_of}
use Rattle.ea_travel_times.specs.Timetables.{AreFit, ClassAnswers, IsClass, KindAnswers, is_class, is_kind, run_of}
use Rattle.ea_travel_times.specs.Trips.{AreTrips, IsArrivalByTrips}

pub speeds_fit : (steps : List (ℕ × ℕ)) (kind : RawKind) (period first count : ℕ) → IsClass steps kind → kind ≡ Speeds period first count → (first + count ≤ length steps) × AreSpeeds period (run_of steps first count)
speeds_fit steps kind period first count fits is = subst (IsClass steps) is fits

pub trips_fit : (steps : List (ℕ × ℕ)) (kind : RawKind) (period first count : ℕ) → IsClass steps kind → kind ≡ Trips period first count → (first + count ≤ length steps) × AreTrips period (run_of steps first count)
trips_fit steps kind period first count fits is = subst (IsClass steps) is fits

pub points_fit : (steps : List (ℕ × ℕ)) (kind : RawKind) (period first count : ℕ) → IsClass steps kind → kind ≡ Points period first count → (first + count ≤ length steps) × ArePoints period (run_of steps first count)
points_fit steps kind period first count fits is = subst (IsClass steps) is fits

pub speeds_answer : (steps : List (ℕ × ℕ)) (kind : RawKind) (period first count weight departure arrival : ℕ) → kind ≡ Speeds period first count → IsArrivalBySpeeds (speed_at (run_of steps first count) period) weight departure arrival → ClassAnswers steps kind weight departure arrival
speeds_answer steps kind period first count weight departure arrival is answer = subst (λ (k : RawKind). ClassAnswers steps k weight departure arrival) (sym is) answer

pub trips_answer : (steps : List (ℕ × ℕ)) (kind : RawKind) (period first count weight departure arrival : ℕ) → kind ≡ Trips period first count → IsArrivalByTrips period (run_of steps first count) weight departure arrival → ClassAnswers steps kind weight departure arrival
trips_answer steps kind period first count weight departure arrival is answer = subst (λ (k : RawKind). ClassAnswers steps k weight departure arrival) (sym is) answer

pub points_answer : (steps : List (ℕ × ℕ)) (kind : RawKind) (period first count weight departure arrival : ℕ) → kind ≡ Points period first count → IsArrivalByPoints period (run_of steps first count) weight departure arrival → ClassAnswers steps kind weight departure arrival
points_answer steps kind period first count weight departure arrival is answer = subst (λ (k : RawKind). ClassAnswers steps k weight departure arrival) (sym is) answer

pub no_speeds : (period first count : ℕ) → AreSpeeds period (run_of [] first count) → ⊥
no_speeds period first count are = omega (arith, are.some, length-take count (drop first (none)), length-drop first none)
  where
    none : List (ℕ × ℕ)
    none = []

pub few_answer : (steps : List (ℕ × ℕ)) (kind : RawKind) (weight departure arrival : ℕ) → KindAnswers kind weight departure arrival → ClassAnswers steps kind weight departure arrival
few_answer steps Plain weight departure arrival answer = answer
few_answer steps (Every period offset) weight departure arrival answer = answer
few_answer steps (Closed lo hi) weight departure arrival answer = answer
few_answer steps (Rush lo hi extra) weight departure arrival answer = answer
few_answer steps (Speeds period first count) weight departure arrival answer = absurd answer
few_answer steps (Trips period first count) weight departure arrival answer = absurd answer
few_answer steps (Points period first count) weight departure arrival answer = absurd answer

-- the kind at a place of a list that is fit
class_of : (kinds : List RawKind) (steps : List (ℕ × ℕ)) (place : ℕ) (kind : RawKind) → AreFit kinds steps → slice_get kinds place ≡ Some kind → IsClass steps kind
class_of kinds steps place Plain fit at = refl
class_of kinds steps place (Every period offset) fit at = fit.classes place (Every period offset) at
class_of kinds steps place (Closed lo hi) fit at = fit.classes place (Closed lo hi) at
class_of kinds steps place (Rush lo hi extra) fit at = fit.classes place (Rush lo hi extra) at
class_of kinds steps place (Speeds period first count) fit at = fit.speeds place period first count at
class_of kinds steps place (Trips period first count) fit at = fit.trips place period first count at
class_of kinds steps place (Points period first count) fit at = fit.points place period first count at

pub get_of : (kinds : List RawKind) (place : ℕ) (d : RawKind) → place < length kinds → slice_get kinds place ≡ Some (get_or kinds place d)
get_of [] place d below = absurd (omega (arith, below))
get_of (kind ∷ kinds) zero d below = refl
get_of (kind ∷ kinds) (suc place) d below = get_of kinds place d (omega (arith, below))

pub class_at : (kinds : List RawKind) (steps : List (ℕ × ℕ)) (place : ℕ) (d : RawKind) → AreFit kinds steps → place < length kinds → IsClass steps (get_or kinds place d)
class_at kinds steps place d fit below = class_of kinds steps place (get_or kinds place d) fit (get_of kinds place d below)

pub among_of : (kinds : List RawKind) (place : ℕ) (kind : RawKind) → slice_get kinds place ≡ Some kind → (place < length kinds) × (kind ≡ get_or kinds place kind)
among_of [] place kind at = cc
among_of (first ∷ kinds) zero kind at = (omega arith, cc)
among_of (first ∷ kinds) (suc place) kind at = let rest = among_of kinds place kind at in (omega (arith, rest.0), rest.1)

few_class : (kind : RawKind) → IsTrue (is_kind kind) → IsTrue (is_class kind)
few_class Plain is = is
few_class (Every period offset) is = is
few_class (Closed lo hi) is = is
few_class (Rush lo hi extra) is = is
few_class (Speeds period first count) is = cc
few_class (Trips period first count) is = cc
few_class (Points period first count) is = cc

-- kinds that have no steps are fit with no steps
pub fit_of_few : (kinds : List RawKind) → ((kind : RawKind) → IsAmong kinds kind → IsTrue (is_kind kind)) → AreFit kinds []
fit_of_few kinds each = record {
  classes = λ place kind at. few_class kind (few place kind at);
  speeds = λ place period first count at. not_true (few place (Speeds period first count) at);
  trips = λ place period first count at. not_true (few place (Trips period first count) at);
  points = λ place period first count at. not_true (few place (Points period first count) at);
}
  where
    not_true : {A : Type 0} → IsTrue false → A
    not_true is = cc

    few : (place : ℕ) (kind : RawKind) → slice_get kinds place ≡ Some kind → IsTrue (is_kind kind)
    few place kind at = let found = among_of kinds place kind at in each kind (place, (found.0, found.1))

-- the kind of a class of a list that is fit: class 0 is plain
pub class_fits : (kinds : List RawKind) (steps : List (ℕ × ℕ)) (class : ℕ) → AreFit kinds steps → class ≤ length kinds → IsClass steps (kind_of kinds class)
class_fits kinds steps zero fit to = refl
class_fits kinds steps (suc place) fit to = class_at kinds steps place Plain fit (omega (arith, to))
