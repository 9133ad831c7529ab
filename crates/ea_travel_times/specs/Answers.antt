-- What travel times may answer: at which arrival an arc of a class and a weight that is left at a departure is done.
use Rattle.std.specs.Prelude.{ℕ, ◌<◌, ◌≤◌, ◌^◌}
use Rattle.ea_base.specs.declared.limits.TheConstants.{HORIZON}

-- A question is a class, a weight and a departure within the horizon.
pub record IsQuestion (classes : ℕ) (class weight departure : ℕ) : Type 0 where
  pub of_class : class ≤ classes
  pub of_weight : weight < 2 ^ 32
  pub within : departure ≤ HORIZON

-- A weight and a time in the ranges of a question.
pub record AreInRange (weight time : ℕ) : Type 0 where
  pub of_weight : weight < 2 ^ 32
  pub within : time ≤ HORIZON

-- First in, first out: each question has an answer, no answer is before its departure, and a later departure is not
-- answered by an earlier arrival. So a question has exactly one answer.
pub record IsFifo (answers : ℕ → ℕ → ℕ → ℕ → Type 0) (classes : ℕ) : Type 0 where
  pub has_answer : (class weight departure : ℕ) → IsQuestion classes class weight departure → (arrival : ℕ) × answers class weight departure arrival
  pub not_before : (class weight departure arrival : ℕ) → IsQuestion classes class weight departure → answers class weight departure arrival → departure ≤ arrival
  pub in_order : (class weight departure later arrival next : ℕ) → IsQuestion classes class weight departure → IsQuestion classes class weight later → answers class weight departure arrival → answers class weight later next → departure ≤ later → arrival ≤ next

-- A function may be asked each question, and its answers are first in, first out.
pub record IsFifoFunction
    (may : ℕ → ℕ → ℕ → Type 0)
    (answers : ℕ → ℕ → ℕ → ℕ → Type 0)
    (classes : ℕ)
    : Type 0 where
  pub may_ask : (class weight departure : ℕ) → IsQuestion classes class weight departure → may class weight departure
  pub fifo : IsFifo answers classes

-- Every answer of the first to a question is one of the second.
abbrev pub IsWithin : (ℕ → ℕ → ℕ → ℕ → Type 0) → (ℕ → ℕ → ℕ → ℕ → Type 0) → ℕ → Type 0
IsWithin first second classes =
    (class weight departure arrival : ℕ) → IsQuestion classes class weight departure → first class weight departure arrival → second class weight departure arrival
