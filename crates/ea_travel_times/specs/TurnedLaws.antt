-- Travel times turned round are first in, first out.
use Rattle.std.proofs.Common.{◌≡◌, ℕ, zero, suc, ◌+◌, ◌-◌, ◌<◌, ◌≤◌, ◌⊎◌, inl, inr, refl, arith}
use Rattle.std.specs.Prelude.{None}
use Rattle.std.proofs.lemmas.Bool.Decides.{leb_tells}
use Rattle.ea_base.specs.declared.limits.TheConstants.{HORIZON}
use Rattle.ea_travel_times.specs.Answers.{IsFifo, IsQuestion}
use Rattle.ea_travel_times.specs.Departures.{IsDepartureBy, IsInTime, IsLatest}
use Rattle.ea_travel_times.specs.TurnedTimes.{IsTurned}

module _ (answers : ℕ → ℕ → ℕ → ℕ → Type 0) (classes : ℕ) (fifo : IsFifo answers classes) where
  at_time : (class weight departure time : ℕ) → IsQuestion classes class weight departure → time ≤ HORIZON → IsQuestion classes class weight time
  at_time class weight departure time question within = record { of_class = question.of_class; of_weight = question.of_weight; within = within }

  -- the latest departure that is in time, of those below a bound
  latest_below : (class weight arrival bound : ℕ) → IsQuestion classes class weight arrival → bound ≤ HORIZON + 1 → ((later : ℕ) → IsInTime answers class weight arrival later → later < bound)
      → ((latest : ℕ) × IsDepartureBy answers class weight arrival latest) ⊎ IsLatest answers class weight arrival None
  latest_below class weight arrival zero question to below = inr (λ departure is. let less = below departure is in absurd (omega (arith, less)))
  latest_below class weight arrival (suc last) question to below =
      go (λ less. latest_below class weight arrival last question (omega (arith, to)) less) (fifo.has_answer class weight last asked)
    where
      asked : IsQuestion classes class weight last
      asked = at_time class weight arrival last question (omega (arith, to))

      go : (((later : ℕ) → IsInTime answers class weight arrival later → later < last) → ((latest : ℕ) × IsDepartureBy answers class weight arrival latest) ⊎ IsLatest answers class weight arrival None)
          → (reached : ℕ) × answers class weight last reached → ((latest : ℕ) × IsDepartureBy answers class weight arrival latest) ⊎ IsLatest answers class weight arrival None
      go rest found = elim (leb_tells found.0 arrival) [
        | inl by ↦ inl (
          last,
          record {
            in_time = record { within = omega (arith, to); reached = found.0; answer = found.1; by = by.1 };
            latest = λ later is. let less = below later is in omega (arith, less);
          },
        )
        | inr late ↦ rest (
            λ later is. elim (leb_tells last later) [
              | inl after ↦
                  let order = fifo.in_order class weight last later found.0 is.reached asked (at_time class weight arrival later question is.within) found.1 is.answer after.1 in
                  absurd (omega (arith, order, late.1, is.by))
              | inr before ↦ before.1
            ])
      ]

  pub has_latest : (class weight arrival : ℕ) → IsQuestion classes class weight arrival → ((latest : ℕ) × IsDepartureBy answers class weight arrival latest) ⊎ IsLatest answers class weight arrival None
  has_latest class weight arrival question = latest_below class weight arrival (HORIZON + 1) question (omega arith) (λ later is. let within = is.within in omega (arith, within))

  -- what is in time for a time is in time for a later one
  in_time_later : (class weight arrival later departure : ℕ) → arrival ≤ later → IsInTime answers class weight arrival departure → IsInTime answers class weight later departure
  in_time_later class weight arrival later departure order is = record { within = is.within; reached = is.reached; answer = is.answer; by = omega (arith, order, is.by) }

  turned_in_order : (class weight departure later arrival next : ℕ) → IsTurned answers class weight departure arrival → IsTurned answers class weight later next → departure ≤ later → arrival ≤ next
  turned_in_order class weight departure later arrival next (inl this) (inl that) order =
      let earlier = this.1.latest that.0 (in_time_later class weight (HORIZON - later) (HORIZON - departure) that.0 (omega (arith, order)) that.1.in_time) in
      omega (arith, earlier, this.2, that.2)
  turned_in_order class weight departure later arrival next (inl this) (inr that) order = omega (arith, this.2, that.1)
  turned_in_order class weight departure later arrival next (inr this) (inl that) order =
      absurd (this.0 that.0 (in_time_later class weight (HORIZON - later) (HORIZON - departure) that.0 (omega (arith, order)) that.1.in_time))
  turned_in_order class weight departure later arrival next (inr this) (inr that) order = omega (arith, this.1, that.1)

  turned_not_before : (class weight departure arrival : ℕ) → IsQuestion classes class weight departure → IsTurned answers class weight departure arrival → departure ≤ arrival
  turned_not_before class weight departure arrival question (inl this) =
      let in_time = this.1.in_time in
      let after = fifo.not_before class weight this.0 in_time.reached (at_time class weight departure this.0 question in_time.within) in_time.answer in
      omega (arith, after, in_time.by, this.2, question.within)
  turned_not_before class weight departure arrival question (inr this) = omega (arith, this.1, question.within)

  turned_has_answer : (class weight departure : ℕ) → IsQuestion classes class weight departure → (arrival : ℕ) × IsTurned answers class weight departure arrival
  turned_has_answer class weight departure question = elim (has_latest class weight (HORIZON - departure) (at_time class weight departure (HORIZON - departure) question (omega arith))) [
    | inl found ↦ (HORIZON - found.0, inl (found.0, found.1, refl))
    | inr none ↦ (HORIZON + 1, inr (none, refl))
  ]

  pub turned_is_fifo : IsFifo (IsTurned answers) classes
  turned_is_fifo = record {
    has_answer = turned_has_answer;
    not_before = turned_not_before;
    in_order = λ class weight departure later arrival next question other this that order. turned_in_order class weight departure later arrival next this that order;
  }
