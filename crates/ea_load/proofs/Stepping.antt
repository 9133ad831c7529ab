-- The steps that a text of timetables denotes are those that its kinds have.
use Rattle.std.proofs.Common.{◌≡◌, ◌⊎◌, ℕ, zero, suc, ◌+◌, ◌-◌, ◌^◌, ◌<◌, ◌≤◌, ◌&&◌, ◌==◌, min, List, [], ◌∷◌, ◌++◌, length, take, drop, slice_index_or, leb, cond, Bool, true, false, refl, ap, sym, ◌∙◌, arith, subst, inl, inr, length-append}
use Rattle.std.specs.Prelude.{Some, IsTrue, slice_get, nat_lt}
use Rattle.std.specs.List.{list_all}
use Rattle.std.proofs.lemmas.Bool.Decides.{leb_tells, nat_tests}
use Rattle.std.proofs.lemmas.Bool.{lt-ltb}
use Rattle.std.proofs.lemmas.List.{take_all, length-drop, drop_all, drop-append-le, take-append-le, get_or_append_left, get_or_push}
use Rattle.ea_base.specs.declared.timetable.RawKind.{RawKind}
use Rattle.ea_base.specs.declared.timetable.RawKind.TheVariants.{Plain, Every, Closed, Rush, Speeds, Trips, Points}
use Rattle.ea_input.specs.StepLines.{Run, due, has_steps, is_last, stands_still, step_before, first_step, arrives, least_time, most_time, least_value, most_value, IsStepLine}
use Rattle.ea_input.specs.Table.{Table, nothing, IsKind, IsKindLine, IsTableAfter, AreTableLines, class_of, steps_from, last_kind, run_in}
use Rattle.ea_input.proofs.LastKind.{last_more}
use Rattle.ea_travel_times.specs.Speeds.{AreSpeeds, time_at, value_at}
use Rattle.ea_travel_times.specs.Trips.{AreTrips}
use Rattle.ea_travel_times.specs.Timetables.{AreFit, IsClass, is_kind}
use Rattle.ea_travel_times.proofs.FoundFit.{fit_of_each}

-- ---- the steps of a class so far

record PartSpeeds (period count : ℕ) (steps : List (ℕ × ℕ)) : Type 0 where
  few : length steps ≤ count
  some : 0 < count
  period_from : 0 < period
  period_to : period ≤ 2 ^ 32
  from_zero : 0 < length steps → time_at steps 0 ≡ 0
  ascend : (place : ℕ) → place + 1 < length steps → time_at steps place < time_at steps (place + 1)
  within : (place : ℕ) → place < length steps → time_at steps place < period
  to_full : (place : ℕ) → place < length steps → value_at steps place ≤ 1000000
  moves : length steps ≡ count → ((place : ℕ) → place < length steps → value_at steps place ≡ 0) → ⊥

record PartTrips (period count : ℕ) (steps : List (ℕ × ℕ)) : Type 0 where
  few : length steps ≤ count
  some : 0 < count
  period_to : period ≤ 2 ^ 32
  ascend : (place : ℕ) → place + 1 < length steps → time_at steps place < time_at steps (place + 1)
  within : (place : ℕ) → place < length steps → 0 < period → time_at steps place < period
  leave : (place : ℕ) → place < length steps → time_at steps place ≤ 281474976710655
  extra : (place : ℕ) → place < length steps → value_at steps place ≤ 2 ^ 32
  in_order : (place : ℕ) → place + 1 < length steps → time_at steps place + value_at steps place ≤ time_at steps (place + 1) + value_at steps (place + 1)
  turn : length steps ≡ count → 0 < period → time_at steps (length steps - 1) + value_at steps (length steps - 1) ≤ period + time_at steps 0 + value_at steps 0

-- ---- one more step

abbrev and_one : List (ℕ × ℕ) → ℕ × ℕ → List (ℕ × ℕ)
and_one steps step = steps ++ step ∷ []

-- Before the new step the steps are as they were; the new one is behind them.
kept_time : (steps : List (ℕ × ℕ)) (step : ℕ × ℕ) (place : ℕ) → place < length steps → time_at (and_one steps step) place ≡ time_at steps place
kept_time steps step place inside = ap (λ (s : ℕ × ℕ). s.0) (get_or_append_left steps (step ∷ []) (0, 0) place inside)

kept_value : (steps : List (ℕ × ℕ)) (step : ℕ × ℕ) (place : ℕ) → place < length steps → value_at (and_one steps step) place ≡ value_at steps place
kept_value steps step place inside = ap (λ (s : ℕ × ℕ). s.1) (get_or_append_left steps (step ∷ []) (0, 0) place inside)

new_time : (steps : List (ℕ × ℕ)) (step : ℕ × ℕ) (place : ℕ) → length steps ≡ place → time_at (and_one steps step) place ≡ step.0
new_time steps step place last = ap (λ (s : ℕ × ℕ). s.0) (get_or_push steps step (0, 0) place last)

new_value : (steps : List (ℕ × ℕ)) (step : ℕ × ℕ) (place : ℕ) → length steps ≡ place → value_at (and_one steps step) place ≡ step.1
new_value steps step place last = ap (λ (s : ℕ × ℕ). s.1) (get_or_push steps step (0, 0) place last)

longer : (steps : List (ℕ × ℕ)) (step : ℕ × ℕ) → length (and_one steps step) ≡ length steps + 1
longer steps step = length-append steps (step ∷ [])

-- What holds at each place, and of the new step.
each_more : (P : ℕ → ℕ × ℕ → Type 0) (steps : List (ℕ × ℕ)) (step : ℕ × ℕ) → ((place : ℕ) → place < length steps → P place (slice_index_or steps place (0, 0))) → P (length steps) step
    → (place : ℕ) → place < length (and_one steps step) → P place (slice_index_or (and_one steps step) place (0, 0))
each_more P steps step before last place inside = elim (leb_tells (length steps) place) [
  | inl late ↦
      let here : length steps ≡ place = omega (arith, late.1, inside, longer steps step) in
      subst (λ (s : ℕ × ℕ). P place s) (sym (get_or_push steps step (0, 0) place here)) (subst (λ (n : ℕ). P n step) here last)
  | inr early ↦ subst (λ (s : ℕ × ℕ). P place s) (sym (get_or_append_left steps (step ∷ []) (0, 0) place early.1)) (before place early.1)
]

-- What holds from each place to the next, and from the last one to the new step.
next_more : (P : ℕ × ℕ → ℕ × ℕ → Type 0) (steps : List (ℕ × ℕ)) (step : ℕ × ℕ) → ((place : ℕ) → place + 1 < length steps → P (slice_index_or steps place (0, 0)) (slice_index_or steps (place + 1) (0, 0))) → (0 < length steps → P (slice_index_or steps (length steps - 1) (0, 0)) step)
    → (place : ℕ) → place + 1 < length (and_one steps step) → P (slice_index_or (and_one steps step) place (0, 0)) (slice_index_or (and_one steps step) (place + 1) (0, 0))
next_more P steps step before last place inside =
    let here : place < length steps = omega (arith, inside, longer steps step) in
    let first = get_or_append_left steps (step ∷ []) (0, 0) place here in
    elim (leb_tells (length steps) (place + 1)) [
      | inl late ↦
          let end : length steps ≡ place + 1 = omega (arith, late.1, here) in
          let back : length steps - 1 ≡ place = omega (arith, end) in
          subst (λ (s : ℕ × ℕ). P s (slice_index_or (and_one steps step) (place + 1) (0, 0))) (sym first)
          (subst (λ (s : ℕ × ℕ). P (slice_index_or steps place (0, 0)) s) (sym (get_or_push steps step (0, 0) (place + 1) end))
          (subst (λ (n : ℕ). P (slice_index_or steps n (0, 0)) step) back (last (omega (arith, here)))))
      | inr early ↦
          subst (λ (s : ℕ × ℕ). P s (slice_index_or (and_one steps step) (place + 1) (0, 0))) (sym first)
          (subst (λ (s : ℕ × ℕ). P (slice_index_or steps place (0, 0)) s) (sym (get_or_append_left steps (step ∷ []) (0, 0) (place + 1) early.1)) (before place early.1))
    ]

-- ---- the ranges of a step

at_true : (b : Bool) (x y n : ℕ) → n ≤ cond b x y → b ≡ true → n ≤ x
at_true true x y n h e = h
at_true false x y n h e = cc

from_true : (b : Bool) (x y n : ℕ) → cond b x y ≤ n → b ≡ true → x ≤ n
from_true true x y n h e = h
from_true false x y n h e = cc

at_most : (b : Bool) (x y m n : ℕ) → n ≤ cond b x y → x ≤ m → y ≤ m → n ≤ m
at_most true x y m n h p q = omega (arith, h, p)
at_most false x y m n h p q = omega (arith, h, q)

at_first : (b : Bool) (x n : ℕ) → n ≤ cond b x 0 → b ≡ false → n ≤ 0
at_first true x n h e = cc
at_first false x n h e = h

both_true : (a b : Bool) → a ≡ true → b ≡ true → (a && b) ≡ true
both_true true b p q = q
both_true false b p q = cc

abbrev speed_run : ℕ → ℕ → List (ℕ × ℕ) → Run
speed_run period count steps = record { class = record { trips = false; period = period; count = count }; steps = steps }

abbrev trip_run : ℕ → ℕ → List (ℕ × ℕ) → Run
trip_run period count steps = record { class = record { trips = true; period = period; count = count }; steps = steps }

abbrev Ranges : Run → ℕ × ℕ → Type 0
Ranges run step = (least_time run ≤ step.0) × (step.0 ≤ most_time run) × (least_value run step.0 ≤ step.1) × (step.1 ≤ most_value run step.0)

after_before : (run : Run) (time : ℕ) → least_time run ≤ time → 0 < length run.steps → (step_before run).0 < time
unfolding least_time
after_before run time low some = omega (arith, from_true (has_steps run) ((step_before run).0 + 1) 0 time low (lt-ltb 0 (length run.steps) some))

none_has : (steps : List (ℕ × ℕ)) → length steps ≡ 0 → nat_lt 0 (length steps) ≡ false
none_has steps e = ap (λ n. nat_lt 0 n) e

speed_in_period : (period count : ℕ) (steps : List (ℕ × ℕ)) (time : ℕ) → 0 < period → time ≤ most_time (speed_run period count steps) → time < period
unfolding most_time
speed_in_period period count steps time some high =
    let below : time ≤ period - 1 = at_most (nat_lt 0 (length steps)) (min (period - 1) 281474976710655) 0 (period - 1) time high (omega arith) (omega arith) in
    omega (arith, below, some)

speed_first : (period count : ℕ) (steps : List (ℕ × ℕ)) (time : ℕ) → length steps ≡ 0 → time ≤ most_time (speed_run period count steps) → time ≡ 0
unfolding most_time
speed_first period count steps time none high = omega (arith, at_first (nat_lt 0 (length steps)) (min (period - 1) 281474976710655) time high (none_has steps none))

speed_to_full : (period count : ℕ) (steps : List (ℕ × ℕ)) (time value : ℕ) → value ≤ most_value (speed_run period count steps) time → value ≤ 1000000
unfolding most_value
speed_to_full period count steps time value high = high

same_count : (a b : ℕ) → a ≡ b → (a == b) ≡ true
same_count a b e = grind (arith, nat_tests)

speed_moves : (period count : ℕ) (steps : List (ℕ × ℕ)) (time value : ℕ) → least_value (speed_run period count steps) time ≤ value → length steps + 1 ≡ count → list_all (λ step. step.1 == 0) steps ≡ true → 0 < value
unfolding least_value
speed_moves period count steps time value low last still =
    let one = from_true (is_last (speed_run period count steps) && stands_still (speed_run period count steps)) 1 0 value low (both_true (length steps + 1 == count) (list_all (λ step. step.1 == 0) steps) (same_count (length steps + 1) count last) still) in
    omega (arith, one)

all_still : (steps : List (ℕ × ℕ)) → ((place : ℕ) → place < length steps → value_at steps place ≡ 0) → list_all (λ step. step.1 == 0) steps ≡ true
all_still [] none = refl
all_still (step ∷ steps) none = both_true (step.1 == 0) (list_all (λ s. s.1 == 0) steps) (same_count step.1 0 (none 0 (omega arith))) (all_still steps (λ place inside. none (suc place) (omega (arith, inside))))

trip_leaves : (period count : ℕ) (steps : List (ℕ × ℕ)) (time : ℕ) → time ≤ most_time (trip_run period count steps) → time ≤ 281474976710655
unfolding most_time
trip_leaves period count steps time high = at_most (period == 0) 281474976710655 (min (period - 1) 281474976710655) 281474976710655 time high (omega arith) (omega arith)

period_there : (period : ℕ) → 0 < period → (period == 0) ≡ false
period_there period some = grind (arith, nat_tests)

trip_in_period : (period count : ℕ) (steps : List (ℕ × ℕ)) (time : ℕ) → time ≤ most_time (trip_run period count steps) → 0 < period → time < period
unfolding most_time
trip_in_period period count steps time high some =
    let below : time ≤ min (period - 1) 281474976710655 = subst (λ (b : Bool). time ≤ cond b 281474976710655 (min (period - 1) 281474976710655)) (period_there period some) high in
    omega (arith, below, some)

trip_extra : (period count : ℕ) (steps : List (ℕ × ℕ)) (time value : ℕ) → value ≤ most_value (trip_run period count steps) time → value ≤ 2 ^ 32
unfolding most_value
trip_extra period count steps time value high =
    at_most (is_last (trip_run period count steps) && has_steps (trip_run period count steps) && nat_lt 0 period) (min (period + arrives (first_step (trip_run period count steps)) - time) 4294967296) 4294967296 (2 ^ 32) value high (omega arith) (omega arith)

trip_in_order : (period count : ℕ) (steps : List (ℕ × ℕ)) (time value : ℕ) → least_value (trip_run period count steps) time ≤ value → arrives (step_before (trip_run period count steps)) ≤ time + value
unfolding least_value
trip_in_order period count steps time value low = omega (arith, low)

trip_turns : (period count : ℕ) (steps : List (ℕ × ℕ)) (time value : ℕ) → time < period → value ≤ most_value (trip_run period count steps) time → length steps + 1 ≡ count → 0 < length steps → 0 < period → time + value ≤ period + arrives (first_step (trip_run period count steps))
unfolding most_value
trip_turns period count steps time value inside high last some there =
    let all = both_true ((length steps + 1 == count) && nat_lt 0 (length steps)) (nat_lt 0 period) (both_true (length steps + 1 == count) (nat_lt 0 (length steps)) (same_count (length steps + 1) count last) (lt-ltb 0 (length steps) some)) (lt-ltb 0 period there) in
    let below = at_true (is_last (trip_run period count steps) && has_steps (trip_run period count steps) && nat_lt 0 period) (min (period + arrives (first_step (trip_run period count steps)) - time) 4294967296) 4294967296 value high all in
    omega (arith, below, inside)

-- ---- a class with one more step

speeds_more : (period count : ℕ) (steps : List (ℕ × ℕ)) (step : ℕ × ℕ) → PartSpeeds period count steps → length steps < count → Ranges (speed_run period count steps) step → PartSpeeds period count (and_one steps step)
speeds_more period count steps step part room ranges = record {
  few = omega (arith, room, longer steps step);
  some = part.some;
  period_from = part.period_from;
  period_to = part.period_to;
  from_zero = λ _. begins (leb_tells (length steps) 0);
  ascend = next_more (λ (a b : ℕ × ℕ). a.0 < b.0) steps step part.ascend (after_before (speed_run period count steps) step.0 ranges.0);
  within = each_more (λ (_ : ℕ) (s : ℕ × ℕ). s.0 < period) steps step part.within (speed_in_period period count steps step.0 part.period_from ranges.1);
  to_full = each_more (λ (_ : ℕ) (s : ℕ × ℕ). s.1 ≤ 1000000) steps step part.to_full (speed_to_full period count steps step.0 step.1 ranges.3);
  moves = λ full none.
      let still = all_still steps (λ place inside. sym (kept_value steps step place inside) ∙ none place (omega (arith, inside, longer steps step))) in
      let some = speed_moves period count steps step.0 step.1 ranges.2 (sym (longer steps step) ∙ full) still in
      let stands : step.1 ≡ 0 = sym (new_value steps step (length steps) refl) ∙ none (length steps) (omega (arith, longer steps step)) in
      omega (arith, some, stands);
}
  where
    begins : ((leb (length steps) 0 ≡ true) × (length steps ≤ 0)) ⊎ ((leb (length steps) 0 ≡ false) × (0 < length steps)) → time_at (and_one steps step) 0 ≡ 0
    begins (inl none) = new_time steps step 0 (omega (arith, none.1)) ∙ speed_first period count steps step.0 (omega (arith, none.1)) ranges.1
    begins (inr there) = kept_time steps step 0 there.1 ∙ part.from_zero there.1

trips_more : (period count : ℕ) (steps : List (ℕ × ℕ)) (step : ℕ × ℕ) → PartTrips period count steps → length steps < count → Ranges (trip_run period count steps) step → PartTrips period count (and_one steps step)
trips_more period count steps step part room ranges = record {
  few = omega (arith, room, longer steps step);
  some = part.some;
  period_to = part.period_to;
  ascend = next_more (λ (a b : ℕ × ℕ). a.0 < b.0) steps step part.ascend (after_before (trip_run period count steps) step.0 ranges.0);
  within = each_more (λ (_ : ℕ) (s : ℕ × ℕ). 0 < period → s.0 < period) steps step part.within (trip_in_period period count steps step.0 ranges.1);
  leave = each_more (λ (_ : ℕ) (s : ℕ × ℕ). s.0 ≤ 281474976710655) steps step part.leave (trip_leaves period count steps step.0 ranges.1);
  extra = each_more (λ (_ : ℕ) (s : ℕ × ℕ). s.1 ≤ 2 ^ 32) steps step part.extra (trip_extra period count steps step.0 step.1 ranges.3);
  in_order = next_more (λ (a b : ℕ × ℕ). a.0 + a.1 ≤ b.0 + b.1) steps step part.in_order (λ _. trip_in_order period count steps step.0 step.1 ranges.2);
  turn = λ full there. turns (leb_tells (length steps) 0) full there;
}
  where
    end : length (and_one steps step) - 1 ≡ length steps
    end = omega (arith, longer steps step)

    last_time : time_at (and_one steps step) (length (and_one steps step) - 1) ≡ step.0
    last_time = new_time steps step (length (and_one steps step) - 1) (sym end)

    last_value : value_at (and_one steps step) (length (and_one steps step) - 1) ≡ step.1
    last_value = new_value steps step (length (and_one steps step) - 1) (sym end)

    turns : ((leb (length steps) 0 ≡ true) × (length steps ≤ 0)) ⊎ ((leb (length steps) 0 ≡ false) × (0 < length steps)) → length (and_one steps step) ≡ count → 0 < period
        → time_at (and_one steps step) (length (and_one steps step) - 1) + value_at (and_one steps step) (length (and_one steps step) - 1) ≤ period + time_at (and_one steps step) 0 + value_at (and_one steps step) 0
    turns (inl none) full there =
        let first : time_at (and_one steps step) 0 ≡ step.0 = new_time steps step 0 (omega (arith, none.1)) in
        let value : value_at (and_one steps step) 0 ≡ step.1 = new_value steps step 0 (omega (arith, none.1)) in
        omega (arith, last_time, last_value, first, value)
    turns (inr some) full there =
        let first : time_at (and_one steps step) 0 ≡ time_at steps 0 = kept_time steps step 0 some.1 in
        let value : value_at (and_one steps step) 0 ≡ value_at steps 0 = kept_value steps step 0 some.1 in
        let inside = trip_in_period period count steps step.0 ranges.1 there in
        let in_turn = trip_turns period count steps step.0 step.1 inside ranges.3 (sym (longer steps step) ∙ full) some.1 there in
        omega (arith, last_time, last_value, first, value, in_turn)

-- ---- kinds

-- A kind whose steps aren't all told yet.
abbrev IsPart : List (ℕ × ℕ) → RawKind → Type 0
IsPart steps (Speeds period first count) = (first ≤ length steps) × PartSpeeds period count (drop first steps)
IsPart steps (Trips period first count) = (first ≤ length steps) × PartTrips period count (drop first steps)
IsPart steps (Points period first count) = (first ≤ length steps) × PartTrips period count (drop first steps)
IsPart steps kind = IsTrue (is_kind kind)

every_fits : (period offset : ℕ) → period ≤ 4294967296 → 1 ≤ period → offset ≤ period - 1 → IsTrue (is_kind (Every period offset))
every_fits period offset few some below = grind (arith, nat_tests)

closed_fits : (lo hi : ℕ) → lo + 1 ≤ hi → hi ≤ 281474976710655 → IsTrue (is_kind (Closed lo hi))
closed_fits lo hi before within = grind (arith, nat_tests)

rush_fits : (lo hi extra : ℕ) → lo + 1 ≤ hi → hi ≤ 281474976710655 → extra ≤ 4294967296 → IsTrue (is_kind (Rush lo hi extra))
rush_fits lo hi extra before within few = grind (arith, nat_tests)

no_speeds : (period count : ℕ) → 1 ≤ period → period ≤ 4294967296 → 1 ≤ count → PartSpeeds period count []
no_speeds period count from to some = record {
  few = omega arith;
  some = omega arith;
  period_from = omega arith;
  period_to = omega arith;
  from_zero = λ none. absurd (omega (arith, none));
  ascend = λ place inside. absurd (omega (arith, inside));
  within = λ place inside. absurd (omega (arith, inside));
  to_full = λ place inside. absurd (omega (arith, inside));
  moves = λ full none. omega (arith, full, some);
}

no_trips : (period count : ℕ) → period ≤ 4294967296 → 1 ≤ count → PartTrips period count []
no_trips period count to some = record {
  few = omega arith;
  some = omega arith;
  period_to = omega arith;
  ascend = λ place inside. absurd (omega (arith, inside));
  within = λ place inside. absurd (omega (arith, inside));
  leave = λ place inside. absurd (omega (arith, inside));
  extra = λ place inside. absurd (omega (arith, inside));
  in_order = λ place inside. absurd (omega (arith, inside));
  turn = λ full there. absurd (omega (arith, full, some));
}

speeds_begin : (period first count : ℕ) (steps : List (ℕ × ℕ)) → 1 ≤ period → period ≤ 4294967296 → 1 ≤ count → first ≡ length steps → IsPart steps (Speeds period first count)
speeds_begin period first count steps from to some begins = (omega (arith, begins), subst (λ (own : List (ℕ × ℕ)). PartSpeeds period count own) (sym (drop_all first steps (omega (arith, begins)))) (no_speeds period count from to some))

trips_begin : (period first count : ℕ) (steps : List (ℕ × ℕ)) → period ≤ 4294967296 → 1 ≤ count → first ≡ length steps → IsPart steps (Trips period first count)
trips_begin period first count steps to some begins = (omega (arith, begins), subst (λ (own : List (ℕ × ℕ)). PartTrips period count own) (sym (drop_all first steps (omega (arith, begins)))) (no_trips period count to some))

kind_begins : (fields : List (List ℕ)) (kind : RawKind) (steps : List (ℕ × ℕ)) → IsKind (length steps) fields kind → IsPart steps kind
kind_begins [] Plain steps h = absurd h
kind_begins [] (Every period offset) steps h = absurd h
kind_begins [] (Closed lo hi) steps h = absurd h
kind_begins [] (Rush lo hi extra) steps h = absurd h
kind_begins [] (Speeds period first count) steps h = absurd h
kind_begins [] (Trips period first count) steps h = absurd h
kind_begins [] (Points period first count) steps h = absurd h
kind_begins (name ∷ []) Plain steps h = refl
kind_begins (name ∷ []) (Every period offset) steps h = absurd h
kind_begins (name ∷ []) (Closed lo hi) steps h = absurd h
kind_begins (name ∷ []) (Rush lo hi extra) steps h = absurd h
kind_begins (name ∷ []) (Speeds period first count) steps h = absurd h
kind_begins (name ∷ []) (Trips period first count) steps h = absurd h
kind_begins (name ∷ []) (Points period first count) steps h = absurd h
kind_begins (name ∷ a ∷ []) Plain steps h = absurd h
kind_begins (name ∷ a ∷ []) (Every period offset) steps h = absurd h
kind_begins (name ∷ a ∷ []) (Closed lo hi) steps h = absurd h
kind_begins (name ∷ a ∷ []) (Rush lo hi extra) steps h = absurd h
kind_begins (name ∷ a ∷ []) (Speeds period first count) steps h = absurd h
kind_begins (name ∷ a ∷ []) (Trips period first count) steps h = absurd h
kind_begins (name ∷ a ∷ []) (Points period first count) steps h = absurd h
kind_begins (name ∷ a ∷ b ∷ []) Plain steps h = absurd h
kind_begins (name ∷ a ∷ b ∷ []) (Every period offset) steps h = every_fits period offset h.1.2 h.1.1 h.2.2
kind_begins (name ∷ a ∷ b ∷ []) (Closed lo hi) steps h = closed_fits lo hi h.2.1 h.2.2
kind_begins (name ∷ a ∷ b ∷ []) (Rush lo hi extra) steps h = absurd h
kind_begins (name ∷ a ∷ b ∷ []) (Speeds period first count) steps h = speeds_begin period first count steps h.1.1 h.1.2 h.2.1 h.3
kind_begins (name ∷ a ∷ b ∷ []) (Trips period first count) steps h = trips_begin period first count steps h.1.2 h.2.1 h.3
kind_begins (name ∷ a ∷ b ∷ []) (Points period first count) steps h = trips_begin period first count steps h.1.2 h.2.1 h.3
kind_begins (name ∷ a ∷ b ∷ c ∷ []) Plain steps h = absurd h
kind_begins (name ∷ a ∷ b ∷ c ∷ []) (Every period offset) steps h = absurd h
kind_begins (name ∷ a ∷ b ∷ c ∷ []) (Closed lo hi) steps h = absurd h
kind_begins (name ∷ a ∷ b ∷ c ∷ []) (Rush lo hi extra) steps h = rush_fits lo hi extra h.2.1 h.2.2 h.3.2
kind_begins (name ∷ a ∷ b ∷ c ∷ []) (Speeds period first count) steps h = absurd h
kind_begins (name ∷ a ∷ b ∷ c ∷ []) (Trips period first count) steps h = absurd h
kind_begins (name ∷ a ∷ b ∷ c ∷ []) (Points period first count) steps h = absurd h
kind_begins (name ∷ a ∷ b ∷ c ∷ d ∷ rest) Plain steps h = absurd h
kind_begins (name ∷ a ∷ b ∷ c ∷ d ∷ rest) (Every period offset) steps h = absurd h
kind_begins (name ∷ a ∷ b ∷ c ∷ d ∷ rest) (Closed lo hi) steps h = absurd h
kind_begins (name ∷ a ∷ b ∷ c ∷ d ∷ rest) (Rush lo hi extra) steps h = absurd h
kind_begins (name ∷ a ∷ b ∷ c ∷ d ∷ rest) (Speeds period first count) steps h = absurd h
kind_begins (name ∷ a ∷ b ∷ c ∷ d ∷ rest) (Trips period first count) steps h = absurd h
kind_begins (name ∷ a ∷ b ∷ c ∷ d ∷ rest) (Points period first count) steps h = absurd h

line_begins : (number : ℕ) (line : List (List ℕ)) (kind : RawKind) (steps : List (ℕ × ℕ)) → IsKindLine number (length steps) line kind → IsPart steps kind
line_begins number [] kind steps h = absurd h
line_begins number (word ∷ []) kind steps h = absurd h
line_begins number (word ∷ j ∷ fields) kind steps h = kind_begins fields kind steps h.2

-- A kind all of whose steps were read.
speeds_whole : (period count : ℕ) (steps : List (ℕ × ℕ)) → PartSpeeds period count steps → length steps ≡ count → AreSpeeds period steps
speeds_whole period count steps part full = record {
  period_from = part.period_from;
  period_to = part.period_to;
  some = omega (arith, part.some, full);
  from_zero = part.from_zero (omega (arith, part.some, full));
  ascend = part.ascend;
  within = part.within;
  to_full = part.to_full;
  moves = part.moves full;
}

trips_whole : (period count : ℕ) (steps : List (ℕ × ℕ)) → PartTrips period count steps → length steps ≡ count → AreTrips period steps
trips_whole period count steps part full = record {
  period_to = part.period_to;
  some = omega (arith, part.some, full);
  ascend = part.ascend;
  within = part.within;
  leave = part.leave;
  extra = part.extra;
  in_order = part.in_order;
  turn = part.turn full;
}

-- All steps of a class are read if none is due.
all_told : (first count : ℕ) (steps : List (ℕ × ℕ)) → first ≤ length steps → length (drop first steps) ≤ count → count - length (drop first steps) ≡ 0 → (first + count ≤ length steps) × (length (drop first steps) ≡ count) × (take count (drop first steps) ≡ drop first steps)
all_told first count steps low few none =
    let same : length (drop first steps) ≡ count = omega (arith, few, none) in
    (omega (arith, low, same, length-drop first steps), same, take_all count (drop first steps) few)

whole : (kind : RawKind) (steps : List (ℕ × ℕ)) → IsPart steps kind → due (record { class = class_of kind; steps = steps_from kind steps }) ≡ 0 → IsClass steps kind
whole Plain steps part none = part
whole (Every period offset) steps part none = part
whole (Closed lo hi) steps part none = part
whole (Rush lo hi extra) steps part none = part
whole (Speeds period first count) steps part none =
    let told = all_told first count steps part.0 part.1.few none in
    (told.0, subst (λ (xs : List (ℕ × ℕ)). AreSpeeds period xs) (sym told.2) (speeds_whole period count (drop first steps) part.1 told.1))
whole (Trips period first count) steps part none =
    let told = all_told first count steps part.0 part.1.few none in
    (told.0, subst (λ (xs : List (ℕ × ℕ)). AreTrips period xs) (sym told.2) (trips_whole period count (drop first steps) part.1 told.1))
whole (Points period first count) steps part none =
    let told = all_told first count steps part.0 part.1.few none in
    (told.0, subst (λ (xs : List (ℕ × ℕ)). AreTrips period xs) (sym told.2) (trips_whole period count (drop first steps) part.1 told.1))

-- One more step leaves the classes before the last one as they are.
run_stays : (first count : ℕ) (steps : List (ℕ × ℕ)) (step : ℕ × ℕ) → first + count ≤ length steps → take count (drop first (and_one steps step)) ≡ take count (drop first steps)
run_stays first count steps step inside =
    ap (λ (xs : List (ℕ × ℕ)). take count xs) (drop-append-le first steps (step ∷ []) (omega (arith, inside)))
    ∙ take-append-le count (drop first steps) (step ∷ []) (omega (arith, inside, length-drop first steps))

class_stays : (kind : RawKind) (steps : List (ℕ × ℕ)) (step : ℕ × ℕ) → IsClass steps kind → IsClass (and_one steps step) kind
class_stays Plain steps step is = is
class_stays (Every period offset) steps step is = is
class_stays (Closed lo hi) steps step is = is
class_stays (Rush lo hi extra) steps step is = is
class_stays (Speeds period first count) steps step is = (omega (arith, is.0, longer steps step), subst (λ (xs : List (ℕ × ℕ)). AreSpeeds period xs) (sym (run_stays first count steps step is.0)) is.1)
class_stays (Trips period first count) steps step is = (omega (arith, is.0, longer steps step), subst (λ (xs : List (ℕ × ℕ)). AreTrips period xs) (sym (run_stays first count steps step is.0)) is.1)
class_stays (Points period first count) steps step is = (omega (arith, is.0, longer steps step), subst (λ (xs : List (ℕ × ℕ)). AreTrips period xs) (sym (run_stays first count steps step is.0)) is.1)

line_ranges : (run : Run) (line : List (List ℕ)) (step : ℕ × ℕ) → IsStepLine run line step → Ranges run step
line_ranges run [] step is = absurd is
line_ranges run (word ∷ []) step is = absurd is
line_ranges run (word ∷ t ∷ []) step is = absurd is
line_ranges run (word ∷ t ∷ x ∷ []) step is = (is.1.1, is.1.2, is.2.1, is.2.2)
line_ranges run (word ∷ t ∷ x ∷ y ∷ rest) step is = absurd is

part_more : (kind : RawKind) (steps : List (ℕ × ℕ)) (step : ℕ × ℕ) → IsPart steps kind → 0 < due (record { class = class_of kind; steps = steps_from kind steps }) → Ranges (record { class = class_of kind; steps = steps_from kind steps }) step → IsPart (and_one steps step) kind
part_more Plain steps step part some ranges = part
part_more (Every period offset) steps step part some ranges = part
part_more (Closed lo hi) steps step part some ranges = part
part_more (Rush lo hi extra) steps step part some ranges = part
part_more (Speeds period first count) steps step part some ranges =
    (omega (arith, part.0, longer steps step), subst (λ (xs : List (ℕ × ℕ)). PartSpeeds period count xs) (sym (drop-append-le first steps (step ∷ []) part.0)) (speeds_more period count (drop first steps) step part.1 (omega (arith, some)) ranges))
part_more (Trips period first count) steps step part some ranges =
    (omega (arith, part.0, longer steps step), subst (λ (xs : List (ℕ × ℕ)). PartTrips period count xs) (sym (drop-append-le first steps (step ∷ []) part.0)) (trips_more period count (drop first steps) step part.1 (omega (arith, some)) ranges))
part_more (Points period first count) steps step part some ranges =
    (omega (arith, part.0, longer steps step), subst (λ (xs : List (ℕ × ℕ)). PartTrips period count xs) (sym (drop-append-le first steps (step ∷ []) part.0)) (trips_more period count (drop first steps) step part.1 (omega (arith, some)) ranges))

-- ---- all kinds

-- The kinds so far: the last one's steps may not all be read.
record Sofar (table : Table) : Type 0 where
  earlier : (place : ℕ) (kind : RawKind) → place + 1 < length table.kinds → slice_get table.kinds place ≡ Some kind → IsClass table.steps kind
  last : IsPart table.steps (last_kind table.kinds)

last_at : (kinds : List RawKind) (place : ℕ) (kind : RawKind) → slice_get kinds place ≡ Some kind → place + 1 ≡ length kinds → last_kind kinds ≡ kind
last_at [] place kind at e = absurd (omega (arith, e))
last_at (first ∷ []) zero kind at e = cc
last_at (first ∷ []) (suc place) kind at e = absurd (omega (arith, e))
last_at (first ∷ other ∷ kinds) zero kind at e = absurd (omega (arith, e))
last_at (first ∷ other ∷ kinds) (suc place) kind at e = last_at (other ∷ kinds) place kind at (omega (arith, e))

-- If no step is due each kind is whole.
each_whole : (table : Table) → Sofar table → due (run_in table) ≡ 0 → (place : ℕ) (kind : RawKind) → place < length table.kinds → slice_get table.kinds place ≡ Some kind → IsClass table.steps kind
each_whole table sofar none place kind inside at = elim (leb_tells (length table.kinds) (place + 1)) [
  | inl late ↦
      let end : place + 1 ≡ length table.kinds = omega (arith, late.1, inside) in
      subst (λ (k : RawKind). IsClass table.steps k) (last_at table.kinds place kind at end) (whole (last_kind table.kinds) table.steps sofar.last none)
  | inr early ↦ sofar.earlier place kind early.1 at
]

kept_kind : (kinds : List RawKind) (kind other : RawKind) (place : ℕ) → place < length kinds → slice_get (kinds ++ other ∷ []) place ≡ Some kind → slice_get kinds place ≡ Some kind
kept_kind [] kind other place inside at = absurd (omega (arith, inside))
kept_kind (first ∷ kinds) kind other zero inside at = at
kept_kind (first ∷ kinds) kind other (suc place) inside at = kept_kind kinds kind other place (omega (arith, inside)) at

sofar_more : (arcs classes : ℕ) (table next : Table) (line : List (List ℕ)) → Sofar table → IsTableAfter arcs classes table line next → Sofar next
sofar_more arcs classes table next line sofar (inl h) =
    subst (λ (t : Table). Sofar t) (sym h.1.2) (record {
      earlier = λ place kind before at.
          let inside : place < length table.kinds = omega (arith, before, length-append table.kinds (h.1.0 ∷ [])) in
          each_whole table sofar h.0 place kind inside (kept_kind table.kinds kind h.1.0 place inside at);
      last = subst (λ (k : RawKind). IsPart table.steps k) (sym (last_more table.kinds h.1.0)) (line_begins (length table.kinds + 1) line h.1.0 table.steps h.1.1);
    })
sofar_more arcs classes table next line sofar (inr (inl h)) = subst (λ (t : Table). Sofar t) (sym h.1.2) (record { earlier = sofar.earlier; last = sofar.last })
sofar_more arcs classes table next line sofar (inr (inr h)) =
    subst (λ (t : Table). Sofar t) (sym h.1.2) (record {
      earlier = λ place kind before at. class_stays kind table.steps h.1.0 (sofar.earlier place kind before at);
      last = part_more (last_kind table.kinds) table.steps h.1.0 sofar.last h.0 (line_ranges (run_in table) line h.1.0 h.1.1);
    })

lines_whole : (arcs classes : ℕ) (lines : List (List (List ℕ))) (table end : Table) → Sofar table → AreTableLines arcs classes table lines end → AreFit end.kinds end.steps
lines_whole arcs classes [] table end sofar are = subst (λ (t : Table). AreFit t.kinds t.steps) are.0 (fit_of_each table.kinds table.steps (length table.kinds) (omega arith) (each_whole table sofar are.1))
lines_whole arcs classes (line ∷ lines) table end sofar are = lines_whole arcs classes lines are.0 end (sofar_more arcs classes table are.0 line sofar are.1) are.2

-- What lines denote fits.
pub kinds_fit : (arcs classes : ℕ) (lines : List (List (List ℕ))) (table : Table) → AreTableLines arcs classes nothing lines table → AreFit table.kinds table.steps
kinds_fit arcs classes lines table are = lines_whole arcs classes lines nothing table (record { earlier = λ place kind before at. absurd (omega (arith, before)); last = refl }) are

pub nothing_fits : AreFit [] []
nothing_fits = fit_of_each [] [] 0 (omega arith) (λ place kind inside at. absurd (omega (arith, inside)))
