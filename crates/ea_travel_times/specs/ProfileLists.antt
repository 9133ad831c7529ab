-- A list of profiles as travel times: class 0 is plain, class J is the J-th profile.
use Rattle.std.specs.Prelude.{ℕ, zero, suc, ◌≡◌, ◌≤◌, ◌+◌, List, Some}
use Rattle.std.specs.List.{slice_get}
use Rattle.ea_travel_times.specs.Answers.{AreInRange}

-- The fact of one profile: each departure may be asked and has an answer; no answer is before its departure;
-- a later departure is not answered by an earlier arrival.
pub record IsFifoProfile (may : ℕ → ℕ → Type 0) (answers : ℕ → ℕ → ℕ → Type 0) : Type 0 where
  pub may_ask : (weight departure : ℕ) → AreInRange weight departure → may weight departure
  pub has_answer : (weight departure : ℕ) → AreInRange weight departure → (arrival : ℕ) × answers weight departure arrival
  pub not_before : (weight departure arrival : ℕ) → AreInRange weight departure → answers weight departure arrival → departure ≤ arrival
  pub in_order : (weight departure later arrival next : ℕ) → AreInRange weight departure → AreInRange weight later → answers weight departure arrival → answers weight later next → departure ≤ later → arrival ≤ next

-- Class 0 answers departure + weight, class J what the J-th profile does.
abbrev pub ListAnswers : {Profile : Type 0} → (Profile → ℕ → ℕ → ℕ → Type 0) → List Profile → ℕ → ℕ → ℕ → ℕ → Type 0
ListAnswers answers profiles zero weight departure arrival = arrival ≡ departure + weight
ListAnswers {Profile} answers profiles (suc place) weight departure arrival =
    ∥ ((profile : Profile) × (slice_get profiles place ≡ Some profile) × answers profile weight departure arrival) ∥₁
