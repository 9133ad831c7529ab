-- What is first in, first out stays so if an answer is known to be there, and not which proof of it.
use Rattle.std.specs.Prelude.{ℕ, ◌≤◌}
use Rattle.std.proofs.Math.Bridge.{le_prop}
use Rattle.std.proofs.Math.Nat.{le_antisymm, le_refl}
use mathlib.Core.HLevel.{Σ_prop_path}
use mathlib.Core.Logic.{∥∥₁_elim, ∥∥₁_prop}
use Rattle.ea_travel_times.specs.Answers.{IsFifo, IsFifoFunction, IsQuestion}

module _ (may : ℕ → ℕ → ℕ → Type 0) (answers : ℕ → ℕ → ℕ → ℕ → Type 0) (classes : ℕ) (kept : ∥ IsFifoFunction may answers classes ∥₁) where
  in_order : (class weight departure later arrival next : ℕ) → IsQuestion classes class weight departure → IsQuestion classes class weight later → ∥ answers class weight departure arrival ∥₁ → ∥ answers class weight later next ∥₁ → departure ≤ later → arrival ≤ next
  in_order class weight departure later arrival next question other answer that order =
      ∥∥₁_elim kept le_prop (λ function. ∥∥₁_elim answer le_prop (λ one. ∥∥₁_elim that le_prop (λ two.
      function.fifo.in_order class weight departure later arrival next question other one two order)))

  one_answer : (class weight departure : ℕ) → IsQuestion classes class weight departure → IsProp ((arrival : ℕ) × ∥ answers class weight departure arrival ∥₁)
  one_answer class weight departure question one other =
      Σ_prop_path (λ arrival. ∥∥₁_prop)
      (le_antisymm
      (in_order class weight departure departure one.0 other.0 question question one.1 other.1 (le_refl departure))
      (in_order class weight departure departure other.0 one.0 question question other.1 one.1 (le_refl departure)))

  pub truncated_is_fifo : IsFifo (λ class weight departure arrival. ∥ answers class weight departure arrival ∥₁) classes
  truncated_is_fifo = record {
    has_answer = λ class weight departure question. ∥∥₁_elim kept (one_answer class weight departure question) (λ function.
        let answer = function.fifo.has_answer class weight departure question in (answer.0, ∣ answer.1 ∣₁));
    not_before = λ class weight departure arrival question answer. ∥∥₁_elim kept le_prop (λ function. ∥∥₁_elim answer le_prop (λ one. function.fifo.not_before class weight departure arrival question one));
    in_order = in_order;
  }
