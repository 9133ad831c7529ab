-- A list of profiles is first in, first out.
use Rattle.std.proofs.Common.{ℕ, zero, suc, ◌+◌, ◌-◌, ◌<◌, ◌≤◌, ◌≡◌, List, [], ◌∷◌, length, Some, refl, sym, ◌∙◌, subst, arith}
use Rattle.std.specs.List.{slice_get}
use Rattle.std.proofs.lemmas.Option.{get_or_from_slice_get}
use Rattle.std.proofs.Math.Bridge.{le_prop}
use Rattle.std.proofs.Math.Nat.{le_antisymm, ℕ_set}
use mathlib.Core.HLevel.{Σ_prop_path}
use mathlib.Core.Logic.{∥∥₁_elim, ∥∥₁_prop}
use Rattle.ea_travel_times.specs.Answers.{AreInRange, IsFifo, IsFifoFunction, IsQuestion}
use Rattle.ea_travel_times.specs.Truncated.{truncated_is_fifo}
use Rattle.ea_travel_times.specs.ProfileLists.{IsFifoProfile, ListAnswers}

departure_of : {classes class weight departure : ℕ} → IsQuestion classes class weight departure → AreInRange weight departure
departure_of question = record { of_weight = question.of_weight; within = question.within }

-- two profiles at one place are one
same_place : {Profile : Type 0} (profiles : List Profile) (place : ℕ) (one other : Profile) → slice_get profiles place ≡ Some one → slice_get profiles place ≡ Some other → one ≡ other
same_place profiles place one other this that =
    sym (get_or_from_slice_get profiles place one one this) ∙ get_or_from_slice_get profiles place other one that

some_at : {Profile : Type 0} (profiles : List Profile) (place : ℕ) → place < length profiles → (profile : Profile) × (slice_get profiles place ≡ Some profile)
some_at [] place below = elim below [ ]
some_at (profile ∷ profiles) zero below = (profile, refl)
some_at (profile ∷ profiles) (suc place) below = some_at profiles place (omega (arith, below))

module _ {Profile : Type 0} (may : Profile → ℕ → ℕ → Type 0) (answers : Profile → ℕ → ℕ → ℕ → Type 0)
    (kept : (profile : Profile) → ∥ IsFifoProfile (may profile) (answers profile) ∥₁) where
  list_not_before : (profiles : List Profile) (class weight departure arrival : ℕ) → AreInRange weight departure → ListAnswers answers profiles class weight departure arrival → departure ≤ arrival
  list_not_before profiles zero weight departure arrival asked answer = omega (arith, answer)
  list_not_before profiles (suc place) weight departure arrival asked answer =
      ∥∥₁_elim answer le_prop (λ found. ∥∥₁_elim (kept found.0) le_prop (λ profile_is. profile_is.not_before weight departure arrival asked found.2))

  list_in_order : (profiles : List Profile) (class weight departure later arrival next : ℕ) → AreInRange weight departure → AreInRange weight later → ListAnswers answers profiles class weight departure arrival → ListAnswers answers profiles class weight later next → departure ≤ later → arrival ≤ next
  list_in_order profiles zero weight departure later arrival next asked asked_later answer other order = omega (arith, answer, other, order)
  list_in_order profiles (suc place) weight departure later arrival next asked asked_later answer other order =
      ∥∥₁_elim answer le_prop (λ found. ∥∥₁_elim other le_prop (λ second. ∥∥₁_elim (kept found.0) le_prop (λ profile_is.
      profile_is.in_order weight departure later arrival next asked asked_later found.2
      (subst (λ profile. answers profile weight later next) (same_place profiles place second.0 found.0 second.1 found.1) second.2)
      order)))

  list_answer_prop : (profiles : List Profile) (class weight departure arrival : ℕ) → IsProp (ListAnswers answers profiles class weight departure arrival)
  list_answer_prop profiles zero weight departure arrival = ℕ_set _ _
  list_answer_prop profiles (suc place) weight departure arrival = ∥∥₁_prop

  -- one departure has at most one answer
  one_answer : (profiles : List Profile) (class weight departure : ℕ) → AreInRange weight departure → IsProp ((arrival : ℕ) × ListAnswers answers profiles class weight departure arrival)
  one_answer profiles class weight departure asked one other =
      Σ_prop_path (list_answer_prop profiles class weight departure)
      (le_antisymm
      (list_in_order profiles class weight departure departure one.0 other.0 asked asked one.1 other.1 (omega arith))
      (list_in_order profiles class weight departure departure other.0 one.0 asked asked other.1 one.1 (omega arith)))

  list_has_answer : (profiles : List Profile) (class weight departure : ℕ) → class ≤ length profiles → AreInRange weight departure → (arrival : ℕ) × ListAnswers answers profiles class weight departure arrival
  list_has_answer profiles zero weight departure listed asked = (departure + weight, refl)
  list_has_answer profiles (suc place) weight departure listed asked =
      let found = some_at profiles place (omega (arith, listed)) in
      ∥∥₁_elim (kept found.0) (one_answer profiles (suc place) weight departure asked) (λ profile_is.
      let answer = profile_is.has_answer weight departure asked in (answer.0, ∣ (found.0, found.1, answer.1) ∣₁))

  pub profiles_are_fifo : (profiles : List Profile) → IsFifo (ListAnswers answers profiles) (length profiles)
  profiles_are_fifo profiles = record {
    has_answer = λ class weight departure question. list_has_answer profiles class weight departure question.of_class (departure_of question);
    not_before = λ class weight departure arrival question answer. list_not_before profiles class weight departure arrival (departure_of question) answer;
    in_order = λ class weight departure later arrival next question other answer that order. list_in_order profiles class weight departure later arrival next (departure_of question) (departure_of other) answer that order;
  }

pub plain_answer : {Profile : Type 0} (answers : Profile → ℕ → ℕ → ℕ → Type 0) (profiles : List Profile) (class weight departure : ℕ) → class ≡ 0 → ListAnswers answers profiles class weight departure (departure + weight)
plain_answer answers profiles class weight departure plain =
    subst (λ number. ListAnswers answers profiles number weight departure (departure + weight)) (sym plain) refl

pub listed_answer : {Profile : Type 0} (answers : Profile → ℕ → ℕ → ℕ → Type 0) (profiles : List Profile) (class weight departure arrival : ℕ) (profile : Profile) → 0 < class → slice_get profiles (class - 1) ≡ Some profile → answers profile weight departure arrival → ListAnswers answers profiles class weight departure arrival
listed_answer answers profiles zero weight departure arrival profile listed at answer = elim listed [ ]
listed_answer answers profiles (suc place) weight departure arrival profile listed at answer =
    let same : (suc place - 1 ≡ place) = omega arith in
    ∣ (profile, subst (λ number. slice_get profiles number ≡ Some profile) same at, answer) ∣₁

pub profile_not_before : {may : ℕ → ℕ → Type 0} {answers : ℕ → ℕ → ℕ → Type 0} {weight departure arrival : ℕ} → ∥ IsFifoProfile may answers ∥₁ → AreInRange weight departure → answers weight departure arrival → departure ≤ arrival
profile_not_before kept asked answer = ∥∥₁_elim kept le_prop (λ profile_is. profile_is.not_before _ _ _ asked answer)

-- one profile for every class
function_of : (may : ℕ → ℕ → Type 0) (answers : ℕ → ℕ → ℕ → Type 0) (classes : ℕ) → IsFifoProfile may answers → IsFifoFunction (λ class. may) (λ class. answers) classes
function_of may answers classes profile = record {
  may_ask = λ class weight departure question. profile.may_ask weight departure (departure_of question);
  fifo = record {
    has_answer = λ class weight departure question. profile.has_answer weight departure (departure_of question);
    not_before = λ class weight departure arrival question answer. profile.not_before weight departure arrival (departure_of question) answer;
    in_order = λ class weight departure later arrival next question other answer that order. profile.in_order weight departure later arrival next (departure_of question) (departure_of other) answer that order;
  };
}

pub profile_is_fifo : (may : ℕ → ℕ → Type 0) (answers : ℕ → ℕ → ℕ → Type 0) (classes : ℕ) → ∥ IsFifoProfile may answers ∥₁ → IsFifo (λ class weight departure arrival. ∥ answers weight departure arrival ∥₁) classes
profile_is_fifo may answers classes kept =
    truncated_is_fifo (λ class. may) (λ class. answers) classes (∥∥₁_elim kept ∥∥₁_prop (λ profile. ∣ function_of may answers classes profile ∣₁))
