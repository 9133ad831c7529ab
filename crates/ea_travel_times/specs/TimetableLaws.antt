-- A list of timetables is first in, first out.
use Rattle.std.proofs.Common.{◌≡◌, ℕ, zero, suc, ◌⊎◌, inl, inr, List, [], ◌∷◌, get_or, refl, arith}
use Rattle.std.specs.Prelude.{Some, slice_get}
use Rattle.ea_base.specs.declared.timetable.RawKind.{RawKind}
use Rattle.ea_base.specs.declared.timetable.RawKind.TheVariants.{Plain, Every, Closed, Rush, Speeds, Trips, Points}
use Rattle.ea_travel_times.specs.Answers.{IsFifo}
use Rattle.ea_travel_times.specs.KindLaws.{kind_is_fifo}
use Rattle.ea_travel_times.specs.PointLaws.{points_have_answer, points_in_order}
use Rattle.ea_travel_times.specs.Points.{ArePoints, IsArrivalByPoints}
use Rattle.ea_travel_times.specs.SpeedLaws.{speeds_have_answer, speeds_in_order}
use Rattle.ea_travel_times.specs.Speeds.{IsArrivalBySpeeds, speed_at}
use Rattle.ea_travel_times.specs.TimetableLists.{kind_of, TimetablesAnswer}
use Rattle.ea_travel_times.specs.Timetables.{AreFit, ClassAnswers, run_of}
use Rattle.ea_travel_times.specs.TripLaws.{trips_have_answer, trips_in_order, trips_not_before}
use Rattle.ea_travel_times.specs.Trips.{AreTrips, IsArrivalByTrips}

pub speeds_are_fifo : (speed : ℕ → ℕ) (classes : ℕ) → IsFifo (λ class weight departure arrival. IsArrivalBySpeeds speed weight departure arrival) classes
speeds_are_fifo speed classes = record {
  has_answer = λ class weight departure question. speeds_have_answer speed weight departure question.within;
  not_before = λ class weight departure arrival question answer. answer.not_before;
  in_order = λ class weight departure later arrival next question other answer that order. speeds_in_order speed weight departure later arrival next answer that order;
}

pub trips_are_fifo : (period : ℕ) (steps : List (ℕ × ℕ)) (classes : ℕ) → AreTrips period steps → IsFifo (λ class weight departure arrival. IsArrivalByTrips period steps weight departure arrival) classes
trips_are_fifo period steps classes are = record {
  has_answer = λ class weight departure question. trips_have_answer period steps weight departure question.within;
  not_before = λ class weight departure arrival question answer. trips_not_before period steps weight departure arrival question.within answer;
  in_order = λ class weight departure later arrival next question other answer that order. trips_in_order period steps weight departure later arrival next are answer that order;
}

pub points_are_fifo : (period : ℕ) (steps : List (ℕ × ℕ)) (classes : ℕ) → ArePoints period steps → IsFifo (λ class weight departure arrival. IsArrivalByPoints period steps weight departure arrival) classes
points_are_fifo period steps classes are = record {
  has_answer = λ class weight departure question. points_have_answer period steps are weight departure;
  not_before = λ class weight departure arrival question answer. omega (arith, answer.2);
  in_order = λ class weight departure later arrival next question other answer that order. points_in_order period steps are weight departure later arrival next answer that order;
}

-- a class by itself, whose kind is at a place or is plain
abbrev FitsAt : List RawKind → RawKind → Type 0
FitsAt kinds kind = ((place : ℕ) × (slice_get kinds place ≡ Some kind)) ⊎ (kind ≡ Plain)

class_is_fifo : (kinds : List RawKind) (steps : List (ℕ × ℕ)) (kind : RawKind) (classes : ℕ) → AreFit kinds steps → FitsAt kinds kind → IsFifo (λ class weight departure arrival. ClassAnswers steps kind weight departure arrival) classes
class_is_fifo kinds steps Plain classes fit at = kind_is_fifo Plain classes refl
class_is_fifo kinds steps (Every period offset) classes fit (inl at) = kind_is_fifo (Every period offset) classes (fit.classes at.0 (Every period offset) at.1)
class_is_fifo kinds steps (Every period offset) classes fit (inr is) = cc
class_is_fifo kinds steps (Closed lo hi) classes fit (inl at) = kind_is_fifo (Closed lo hi) classes (fit.classes at.0 (Closed lo hi) at.1)
class_is_fifo kinds steps (Closed lo hi) classes fit (inr is) = cc
class_is_fifo kinds steps (Rush lo hi extra) classes fit (inl at) = kind_is_fifo (Rush lo hi extra) classes (fit.classes at.0 (Rush lo hi extra) at.1)
class_is_fifo kinds steps (Rush lo hi extra) classes fit (inr is) = cc
class_is_fifo kinds steps (Speeds period first count) classes fit at = speeds_are_fifo (speed_at (run_of steps first count) period) classes
class_is_fifo kinds steps (Trips period first count) classes fit (inl at) = trips_are_fifo period (run_of steps first count) classes (fit.trips at.0 period first count at.1).1
class_is_fifo kinds steps (Trips period first count) classes fit (inr is) = cc
class_is_fifo kinds steps (Points period first count) classes fit (inl at) = points_are_fifo period (run_of steps first count) classes (fit.points at.0 period first count at.1).1
class_is_fifo kinds steps (Points period first count) classes fit (inr is) = cc

-- what a class reads is the kind at its place, or plain
found_at : (kinds : List RawKind) (place : ℕ) → (slice_get kinds place ≡ Some (get_or kinds place Plain)) ⊎ (get_or kinds place Plain ≡ Plain)
found_at [] place = inr refl
found_at (kind ∷ kinds) zero = inl refl
found_at (kind ∷ kinds) (suc place) = found_at kinds place

kind_fits : (kinds : List RawKind) (class : ℕ) → FitsAt kinds (kind_of kinds class)
kind_fits kinds zero = inr refl
kind_fits kinds (suc place) = elim (found_at kinds place) [ inl at ↦ inl (place, at) | inr is ↦ inr is ]

pub timetables_are_fifo : (kinds : List RawKind) (steps : List (ℕ × ℕ)) (classes : ℕ) → AreFit kinds steps → IsFifo (TimetablesAnswer kinds steps) classes
timetables_are_fifo kinds steps classes fit = record {
  has_answer = λ class. (class_is_fifo kinds steps (kind_of kinds class) classes fit (kind_fits kinds class)).has_answer class;
  not_before = λ class. (class_is_fifo kinds steps (kind_of kinds class) classes fit (kind_fits kinds class)).not_before class;
  in_order = λ class. (class_is_fifo kinds steps (kind_of kinds class) classes fit (kind_fits kinds class)).in_order class;
}
