-- The extremes of the classes of a list of timetables.
use Rattle.std.proofs.Common.{◌≡◌, false, ℕ, ◌+◌, ◌<◌, ◌≤◌, inl, inr, ap, sym, subst, ◌∙◌, arith, List, [], ◌∷◌, ◌++◌, length, get_or}
use Rattle.std.proofs.Math.ListN.{get_or-append}
use Rattle.std.proofs.Math.Seq.{get_or-append_seam}
use Rattle.std.proofs.lemmas.Bool.Decides.{leb_tells}
use Rattle.std.specs.Prelude.{IsTrue, Some, slice_get}
use Rattle.std.specs.List.{IsAmong}
use Rattle.ea_base.specs.declared.timetable.RawKind.{RawKind}
use Rattle.ea_base.specs.declared.timetable.RawKind.TheVariants.{Plain, Every, Closed, Rush, Speeds, Trips, Points}
use Rattle.ea_travel_times.specs.Extremes.{AreExtremes, IsExtreme}
use Rattle.ea_travel_times.specs.Timetables.{is_kind}
use Rattle.ea_travel_times.proofs.Classes.{among_of, get_of}
use Rattle.ea_travel_times.proofs.FoundFit.{read_as}

-- one more class, and its extreme
pub extreme_more : (kinds : List RawKind) (steps : List (ℕ × ℕ)) (extremes : List ℕ) (count : ℕ) (d : RawKind) (value : ℕ) → length extremes ≡ count → ((place : ℕ) (kind : RawKind) → place < count → slice_get kinds place ≡ Some kind → IsExtreme steps kind (get_or extremes place 0)) → IsExtreme steps (get_or kinds count d) value
    → (place : ℕ) (kind : RawKind) → place < count + 1 → slice_get kinds place ≡ Some kind → IsExtreme steps kind (get_or (extremes ++ value ∷ []) place 0)
extreme_more kinds steps extremes count d value long before last place kind inside at = elim (leb_tells count place) [
  | inl late ↦
      let here : count ≡ place = omega (arith, late.1, inside) in
      let same : get_or kinds count d ≡ kind = ap (λ p. get_or kinds p d) here ∙ read_as kinds place kind d at in
      let seam : value ≡ get_or (extremes ++ value ∷ []) place 0 = sym (get_or-append_seam extremes value [] 0) ∙ ap (λ p. get_or (extremes ++ value ∷ []) p 0) (long ∙ here) in
      subst (IsExtreme steps kind) seam (subst (λ k. IsExtreme steps k value) same last)
  | inr early ↦
      subst (IsExtreme steps kind) (sym (get_or-append extremes (value ∷ []) 0 place (omega (arith, early.1, long)))) (before place kind early.1 at)
]

pub extremes_of_each : (kinds : List RawKind) (steps : List (ℕ × ℕ)) (extremes : List ℕ) (count : ℕ) → length kinds ≤ count → ((place : ℕ) (kind : RawKind) → place < count → slice_get kinds place ≡ Some kind → IsExtreme steps kind (get_or extremes place 0)) → AreExtremes kinds steps extremes
extremes_of_each kinds steps extremes count all each = record {
  speeds = λ place period first number at. one place (Speeds period first number) at;
  trips = λ place period first number at. one place (Trips period first number) at;
  points = λ place period first number at. one place (Points period first number) at;
}
  where
    one : (place : ℕ) (kind : RawKind) → slice_get kinds place ≡ Some kind → IsExtreme steps kind (get_or extremes place 0)
    one place kind at = let found = among_of kinds place kind at in each place kind (omega (arith, found.0, all)) at

-- kinds that have no steps have no extremes
pub extremes_of_few : (kinds : List RawKind) → ((kind : RawKind) → IsAmong kinds kind → IsTrue (is_kind kind)) → AreExtremes kinds [] []
extremes_of_few kinds each = record {
  speeds = λ place period first count at. not_true (few place (Speeds period first count) at);
  trips = λ place period first count at. not_true (few place (Trips period first count) at);
  points = λ place period first count at. not_true (few place (Points period first count) at);
}
  where
    not_true : {A : Type 0} → IsTrue false → A
    not_true is = cc

    few : (place : ℕ) (kind : RawKind) → slice_get kinds place ≡ Some kind → IsTrue (is_kind kind)
    few place kind at = let found = among_of kinds place kind at in each kind (place, (found.0, found.1))

extreme_of : (kinds : List RawKind) (steps : List (ℕ × ℕ)) (extremes : List ℕ) (place : ℕ) (kind : RawKind) → AreExtremes kinds steps extremes → slice_get kinds place ≡ Some kind → IsExtreme steps kind (get_or extremes place 0)
extreme_of kinds steps extremes place Plain are at = tt
extreme_of kinds steps extremes place (Every period offset) are at = tt
extreme_of kinds steps extremes place (Closed lo hi) are at = tt
extreme_of kinds steps extremes place (Rush lo hi extra) are at = tt
extreme_of kinds steps extremes place (Speeds period first count) are at = are.speeds place period first count at
extreme_of kinds steps extremes place (Trips period first count) are at = are.trips place period first count at
extreme_of kinds steps extremes place (Points period first count) are at = are.points place period first count at

pub extreme_at : (kinds : List RawKind) (steps : List (ℕ × ℕ)) (extremes : List ℕ) (place : ℕ) (d : RawKind) → AreExtremes kinds steps extremes → place < length kinds → IsExtreme steps (get_or kinds place d) (get_or extremes place 0)
extreme_at kinds steps extremes place d are below = extreme_of kinds steps extremes place (get_or kinds place d) are (get_of kinds place d below)
