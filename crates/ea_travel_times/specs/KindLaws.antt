-- Each kind of timetable is first in, first out.
use Rattle.std.proofs.Common.{ℕ, ◌+◌, ◌-◌, ◌%◌, ◌<◌, ◌≤◌, inl, inr, refl, arith}
use Rattle.std.specs.Prelude.{IsTrue}
use Rattle.std.proofs.lemmas.Bool.Decides.{leb_tells, nat_tests}
use Rattle.ea_base.specs.declared.timetable.RawKind.{RawKind}
use Rattle.ea_base.specs.declared.timetable.RawKind.TheVariants.{Plain, Every, Closed, Rush, Speeds, Trips, Points}
use Rattle.ea_travel_times.specs.Answers.{IsFifo}
use Rattle.ea_travel_times.specs.Timetables.{is_kind, KindAnswers, IsNextTime}
use Rattle.ea_travel_times.specs.Times.{next_this_turn, next_turn}

next_time : (period offset departure : ℕ) → offset < period → (time : ℕ) × IsNextTime period offset departure time
next_time period offset departure below =
    elim (leb_tells (departure % period) offset) [
      | inl early ↦ (departure + (offset - departure % period), next_this_turn period offset departure below early.1)
      | inr late ↦ (departure + (period - departure % period) + offset, next_turn period offset departure below late.1)
    ]

below_period : (period offset : ℕ) → IsTrue (is_kind (Every period offset)) → offset < period
below_period period offset range = grind (arith, nat_tests)

kind_has_answer : (kind : RawKind) (weight departure : ℕ) → IsTrue (is_kind kind) → (arrival : ℕ) × KindAnswers kind weight departure arrival
kind_has_answer Plain weight departure range = (departure + weight, refl)
kind_has_answer (Every period offset) weight departure range =
    let next = next_time period offset departure (below_period period offset range) in
    (next.0 + weight, (next.0, next.1, refl))
kind_has_answer (Closed lo hi) weight departure range = (_, refl)
kind_has_answer (Rush lo hi extra) weight departure range = (_, refl)
kind_has_answer (Speeds period first count) weight departure range = cc
kind_has_answer (Trips period first count) weight departure range = cc
kind_has_answer (Points period first count) weight departure range = cc

closed_not_before : (lo hi weight departure arrival : ℕ) → KindAnswers (Closed lo hi) weight departure arrival → departure ≤ arrival
closed_not_before lo hi weight departure arrival answer = grind (arith, nat_tests)

rush_not_before : (lo hi extra weight departure arrival : ℕ) → KindAnswers (Rush lo hi extra) weight departure arrival → departure ≤ arrival
rush_not_before lo hi extra weight departure arrival answer = grind (arith, nat_tests)

kind_not_before : (kind : RawKind) (weight departure arrival : ℕ) → KindAnswers kind weight departure arrival → departure ≤ arrival
kind_not_before Plain weight departure arrival answer = omega arith
kind_not_before (Every period offset) weight departure arrival answer = omega (arith, answer.1.not_before, answer.2)
kind_not_before (Closed lo hi) weight departure arrival answer = closed_not_before lo hi weight departure arrival answer
kind_not_before (Rush lo hi extra) weight departure arrival answer = rush_not_before lo hi extra weight departure arrival answer
kind_not_before (Speeds period first count) weight departure arrival answer = absurd answer
kind_not_before (Trips period first count) weight departure arrival answer = absurd answer
kind_not_before (Points period first count) weight departure arrival answer = absurd answer

closed_in_order : (lo hi weight departure later arrival next : ℕ) → KindAnswers (Closed lo hi) weight departure arrival → KindAnswers (Closed lo hi) weight later next → departure ≤ later → arrival ≤ next
closed_in_order lo hi weight departure later arrival next answer other order = grind (arith, nat_tests)

rush_in_order : (lo hi extra weight departure later arrival next : ℕ) → KindAnswers (Rush lo hi extra) weight departure arrival → KindAnswers (Rush lo hi extra) weight later next → departure ≤ later → arrival ≤ next
rush_in_order lo hi extra weight departure later arrival next answer other order = grind (arith, nat_tests)

every_in_order : (period offset departure later time next : ℕ) → IsNextTime period offset departure time → IsNextTime period offset later next → departure ≤ later → time ≤ next
every_in_order period offset departure later time next this that order =
    let after = that.not_before in
    this.least next (omega arith) that.on_offset

kind_in_order : (kind : RawKind) (weight departure later arrival next : ℕ) → KindAnswers kind weight departure arrival → KindAnswers kind weight later next → departure ≤ later → arrival ≤ next
kind_in_order Plain weight departure later arrival next answer other order = omega arith
kind_in_order (Every period offset) weight departure later arrival next answer other order =
    omega (arith, every_in_order period offset departure later answer.0 other.0 answer.1 other.1 order, answer.2, other.2)
kind_in_order (Closed lo hi) weight departure later arrival next answer other order =
    closed_in_order lo hi weight departure later arrival next answer other order
kind_in_order (Rush lo hi extra) weight departure later arrival next answer other order =
    rush_in_order lo hi extra weight departure later arrival next answer other order
kind_in_order (Speeds period first count) weight departure later arrival next answer other order = absurd answer
kind_in_order (Trips period first count) weight departure later arrival next answer other order = absurd answer
kind_in_order (Points period first count) weight departure later arrival next answer other order = absurd answer

-- a kind with its numbers in range is first in, first out
pub kind_is_fifo : (kind : RawKind) (classes : ℕ) → IsTrue (is_kind kind) → IsFifo (λ class weight departure arrival. KindAnswers kind weight departure arrival) classes
kind_is_fifo kind classes range = record {
  has_answer = λ class weight departure question. kind_has_answer kind weight departure range;
  not_before = λ class weight departure arrival question answer. kind_not_before kind weight departure arrival answer;
  in_order = λ class weight departure later arrival next question other answer that order. kind_in_order kind weight departure later arrival next answer that order;
}
