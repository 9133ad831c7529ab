-- What was found of each step and of each kind holds of all.
use Rattle.std.proofs.Common.{◌≡◌, ℕ, zero, suc, ◌+◌, ◌-◌, ◌<◌, ◌≤◌, inl, inr, refl, ap, subst, ◌∙◌, arith, List, [], ◌∷◌, length, get_or}
use Rattle.std.specs.Prelude.{IsTrue, Some, slice_get}
use Rattle.std.proofs.lemmas.Bool.Decides.{leb_tells}
use Rattle.ea_base.specs.declared.timetable.RawKind.{RawKind}
use Rattle.ea_base.specs.declared.timetable.RawKind.TheVariants.{Plain, Every, Closed, Rush, Speeds, Trips, Points}
use Rattle.ea_travel_times.specs.Timetables.{AreFit, IsClass, is_class}
use Rattle.ea_travel_times.proofs.Classes.{among_of}

-- what holds from each place before one to the next, and from the last of them to it, holds one place further
pub below_next : (P : ℕ → Type 0) (place : ℕ) → 0 < place → ((p : ℕ) → p + 1 < place → P p) → P (place - 1) → (p : ℕ) → p + 1 < place + 1 → P p
below_next P place some before last p below = elim (leb_tells place (p + 1)) [
  | inl late ↦ let here : place - 1 ≡ p = omega (arith, late.1, below) in subst P here last
  | inr early ↦ before p early.1
]

is_class_of : (steps : List (ℕ × ℕ)) (kind : RawKind) → IsClass steps kind → IsTrue (is_class kind)
is_class_of steps Plain is = is
is_class_of steps (Every period offset) is = is
is_class_of steps (Closed lo hi) is = is
is_class_of steps (Rush lo hi extra) is = is
is_class_of steps (Speeds period first count) is = refl
is_class_of steps (Trips period first count) is = refl
is_class_of steps (Points period first count) is = refl

pub fit_of_each : (kinds : List RawKind) (steps : List (ℕ × ℕ)) (count : ℕ) → length kinds ≤ count → ((place : ℕ) (kind : RawKind) → place < count → slice_get kinds place ≡ Some kind → IsClass steps kind) → AreFit kinds steps
fit_of_each kinds steps count all each = record {
  classes = λ place kind at. is_class_of steps kind (one place kind at);
  speeds = λ place period first number at. one place (Speeds period first number) at;
  trips = λ place period first number at. one place (Trips period first number) at;
  points = λ place period first number at. one place (Points period first number) at;
}
  where
    one : (place : ℕ) (kind : RawKind) → slice_get kinds place ≡ Some kind → IsClass steps kind
    one place kind at = let found = among_of kinds place kind at in each place kind (omega (arith, found.0, all)) at

pub read_as : (kinds : List RawKind) (place : ℕ) (kind d : RawKind) → slice_get kinds place ≡ Some kind → get_or kinds place d ≡ kind
read_as [] place kind d at = cc
read_as (first ∷ kinds) zero kind d at = cc
read_as (first ∷ kinds) (suc place) kind d at = read_as kinds place kind d at

pub kind_more : (kinds : List RawKind) (steps : List (ℕ × ℕ)) (count : ℕ) (d : RawKind) → ((place : ℕ) (kind : RawKind) → place < count → slice_get kinds place ≡ Some kind → IsClass steps kind) → IsClass steps (get_or kinds count d)
    → (place : ℕ) (kind : RawKind) → place < count + 1 → slice_get kinds place ≡ Some kind → IsClass steps kind
kind_more kinds steps count d before last place kind inside at = elim (leb_tells count place) [
  | inl late ↦
      let here : count ≡ place = omega (arith, late.1, inside) in
      let same : get_or kinds count d ≡ kind = ap (λ p. get_or kinds p d) here ∙ read_as kinds place kind d at in
      subst (IsClass steps) same last
  | inr early ↦ before place kind early.1 at
]
