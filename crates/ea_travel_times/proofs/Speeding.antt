-- The steps of one period of speeds, and the sums beside them.
use Rattle.std.proofs.Common.{◌≡◌, ℕ, zero, suc, ◌+◌, ◌-◌, ◌*◌, ◌^◌, ◌<◌, ◌≤◌, inl, inr, Bool, true, false, cond, refl, ap, sym, subst, ◌∙◌, arith, List, [], ◌∷◌, ◌++◌, length, get_or, length-append}
use Rattle.std.proofs.lemmas.List.{get_or_append_left, get_or_push}
use Rattle.std.proofs.lemmas.Bool.{le-leb, lt-leb}
use Rattle.std.proofs.lemmas.Bool.Decides.{leb_tells, nat_tests}
use Rattle.std.specs.Prelude.{nat_le, nat_lt, slice_index, slice_index_or}
use Rattle.ea_travel_times.specs.Speeds.{time_at, value_at, last_value, sum_to, end_at, AreFirstSums, AreSpeeds}

-- ---- the value of the last step that is not after a time

none_later : (steps : List (ℕ × ℕ)) (value time : ℕ) → ((place : ℕ) → place < length steps → time < time_at steps place) → last_value value steps time ≡ value
none_later [] value time later = refl
none_later (step ∷ steps) value time later =
    let first : time < step.0 = later 0 (omega arith) in
    let past : nat_le step.0 time ≡ false = lt-leb step.0 time first in
    rw past (none_later steps value time (λ place below. later (suc place) (omega (arith, below))))

abbrev Rising : List (ℕ × ℕ) → Type 0
Rising steps = (place : ℕ) → suc place < length steps → time_at steps place < time_at steps (suc place)

rises : (steps : List (ℕ × ℕ)) (place more : ℕ) → Rising steps → place + more < length steps → time_at steps place ≤ time_at steps (place + more)
rises steps place zero rising below = let same : place + 0 ≡ place = omega arith in rw same (omega arith)
rises steps place (suc more) rising below =
    let next : place + suc more ≡ suc (place + more) = omega arith in
    let last = rises steps place more rising (omega (arith, below)) in
    let one : time_at steps (place + more) < time_at steps (suc (place + more)) = rising (place + more) (omega (arith, below)) in
    rw next (omega (arith, last, one))

pub value_in_step : (steps : List (ℕ × ℕ)) (value time place : ℕ) → ((p : ℕ) → suc p < length steps → time_at steps p < time_at steps (suc p)) → place < length steps → time_at steps place ≤ time → (suc place < length steps → time < time_at steps (suc place)) → last_value value steps time ≡ value_at steps place
value_in_step [] value time place rising found early late = absurd (omega (arith, found))
value_in_step (step ∷ steps) value time zero rising found early late =
    let now : nat_le step.0 time ≡ true = le-leb step.0 time early in
    rw now (none_later steps step.1 time (λ place below.
    let up = rises (step ∷ steps) 1 place rising (omega (arith, below)) in
    let same : 1 + place ≡ suc place = omega arith in
    let upper : time_at (step ∷ steps) 1 ≤ time_at (step ∷ steps) (suc place) = rw same at up in
    let lower : time < time_at (step ∷ steps) 1 = late (omega (arith, below)) in
    omega (arith, upper, lower)))
value_in_step (step ∷ steps) value time (suc place) rising found early late =
    value_in_step steps (cond (nat_le step.0 time) step.1 value) time place (λ p below. rising (suc p) (omega (arith, below))) (omega (arith, found)) early (λ below. late (omega (arith, below)))

value_small : (steps : List (ℕ × ℕ)) (value most time : ℕ) → value ≤ most → ((place : ℕ) → place < length steps → value_at steps place ≤ most) → last_value value steps time ≤ most
value_small [] value most time small each = small
value_small (step ∷ steps) value most time small each =
    value_small steps (cond (nat_le step.0 time) step.1 value) most time (one (nat_le step.0 time)) (λ place below. each (suc place) (omega (arith, below)))
  where
    one : (b : Bool) → cond b step.1 value ≤ most
    one true = each 0 (omega arith)
    one false = small

-- ---- sums within one period

module _ (period : ℕ) (steps : List (ℕ × ℕ)) (are : AreSpeeds period steps) where
  rising : (p : ℕ) → suc p < length steps → time_at steps p < time_at steps (suc p)
  rising p below = let next : suc p ≡ p + 1 = omega arith in rw next (are.ascend p (omega (arith, below)))

  pub to_end : (place : ℕ) → place < length steps → time_at steps place < end_at period steps place
  to_end place found = one (nat_lt (place + 1) (length steps)) refl
    where
      one : (b : Bool) → nat_lt (place + 1) (length steps) ≡ b → time_at steps place < cond b (time_at steps (place + 1)) period
      one true is = are.ascend place (grind (arith, nat_tests))
      one false is = are.within place found

  pub end_small : (place : ℕ) → end_at period steps place ≤ period
  end_small place = one (nat_lt (place + 1) (length steps)) refl
    where
      one : (b : Bool) → nat_lt (place + 1) (length steps) ≡ b → cond b (time_at steps (place + 1)) period ≤ period
      one true is = let below : place + 1 < length steps = grind (arith, nat_tests) in let early = are.within (place + 1) below in omega (arith, early)
      one false is = omega arith

  before_end : (place time : ℕ) → time < end_at period steps place → suc place < length steps → time < time_at steps (suc place)
  before_end place time early below =
      let next : suc place ≡ place + 1 = omega arith in
      let is : nat_lt (place + 1) (length steps) ≡ true = grind (arith, nat_tests) in
      let end : end_at period steps place ≡ time_at steps (place + 1) = rw is refl in
      rw next (omega (arith, early, end))

  pub sum_in_step : (place count : ℕ) → place < length steps → time_at steps place + count ≤ end_at period steps place → sum_to steps (time_at steps place + count) ≡ sum_to steps (time_at steps place) + value_at steps place * count
  sum_in_step place zero found inside = let same : time_at steps place + 0 ≡ time_at steps place = omega arith in rw same (omega arith)
  sum_in_step place (suc count) found inside =
      let next : time_at steps place + suc count ≡ suc (time_at steps place + count) = omega arith in
      let here : 0 + (time_at steps place + count) ≡ time_at steps place + count = omega arith in
      let speed : last_value 0 steps (time_at steps place + count) ≡ value_at steps place =
      value_in_step steps 0 (time_at steps place + count) place rising found (omega arith) (before_end place (time_at steps place + count) (omega (arith, inside))) in
      let before = sum_in_step place count found (omega (arith, inside)) in
      let product : value_at steps place * suc count ≡ value_at steps place * count + value_at steps place = omega arith in
      rw (next, here) (omega (arith, speed, before, product))

  pub sum_by_step : (place time : ℕ) → place < length steps → time_at steps place ≤ time → time ≤ end_at period steps place → sum_to steps time ≡ sum_to steps (time_at steps place) + value_at steps place * (time - time_at steps place)
  sum_by_step place time found early late =
      let same : time_at steps place + (time - time_at steps place) ≡ time = omega arith in
      let whole = sum_in_step place (time - time_at steps place) found (omega (arith, same, late)) in
      rw same at whole

  pub sum_small : (time : ℕ) → sum_to steps time ≤ 1000000 * time
  sum_small zero = omega arith
  sum_small (suc time) =
      let one = value_small steps 0 1000000 (0 + time) (omega arith) are.to_full in
      let before = sum_small time in
      omega (arith, one, before)

-- ---- sums beside the steps of several classes

pub sums_more : (steps : List (ℕ × ℕ)) (sums : List ℕ) (place next : ℕ) → AreFirstSums steps sums → length sums ≡ place → (time_at steps place ≡ 0 → next ≡ 0)
    → ((before : ℕ) → before + 1 ≡ place → 0 < time_at steps place → slice_index sums before + value_at steps before * (time_at steps place - time_at steps before) < 2 ^ 64
    → next ≡ slice_index sums before + value_at steps before * (time_at steps place - time_at steps before))
    → AreFirstSums steps (sums ++ next ∷ [])
sums_more steps sums place next are count anew on = record {
  anew = λ at below zero. elim (leb_tells place at) [
    | inl late ↦
        let here : at ≡ place = omega (arith, more, below, late.1, count) in
        let none : time_at steps place ≡ 0 = ap (time_at steps) (sym here) ∙ zero in
        let last : get_or (sums ++ next ∷ []) at 0 ≡ next = new at here in
        last ∙ anew none
    | inr early ↦
        let inside : at < length sums = omega (arith, early.1, count) in
        old at inside ∙ are.anew at inside zero
  ];
  on = λ at below later fits. elim (leb_tells place (at + 1)) [
    | inl late ↦
        let here : at + 1 ≡ place = omega (arith, more, below, late.1, count) in
        let inside : at < length sums = omega (arith, here, count) in
        let same = old at inside in
        let time : time_at steps (at + 1) ≡ time_at steps place = ap (time_at steps) here in
        let last : get_or (sums ++ next ∷ []) (at + 1) 0 ≡ next = new (at + 1) here in
        let from : slice_index sums at + value_at steps at * (time_at steps place - time_at steps at) < 2 ^ 64 = subst (λ (t : ℕ). slice_index sums at + value_at steps at * (t - time_at steps at) < 2 ^ 64) time (rw same at fits) in
        let is = on at here (omega (arith, later, time)) from in
        last ∙ is ∙ ap (λ t. slice_index sums at + value_at steps at * (t - time_at steps at)) (sym time) ∙ ap (λ s. s + value_at steps at * (time_at steps (at + 1) - time_at steps at)) (sym same)
    | inr early ↦
        let inside : at + 1 < length sums = omega (arith, early.1, count) in
        let same = old at (omega (arith, inside)) in
        old (at + 1) inside ∙ are.on at inside later (rw same at fits) ∙ ap (λ s. s + value_at steps at * (time_at steps (at + 1) - time_at steps at)) (sym same)
  ];
}
  where
    more : length (sums ++ next ∷ []) ≡ length sums + 1
    more = length-append sums (next ∷ [])

    old : (at : ℕ) → at < length sums → get_or (sums ++ next ∷ []) at 0 ≡ get_or sums at 0
    old at below = get_or_append_left sums (next ∷ []) 0 at below

    new : (at : ℕ) → at ≡ place → get_or (sums ++ next ∷ []) at 0 ≡ next
    new at here = let last : length sums ≡ at = omega (arith, here, count) in get_or_push sums next 0 at last

pub sum_pushed : (sums new : List ℕ) (next place : ℕ) → new ≡ sums ++ next ∷ [] → length sums ≡ place → (length new ≡ place + 1) × (next ≡ slice_index new (place + 1 - 1))
sum_pushed sums new next place is count =
    let here : place + 1 - 1 ≡ length sums = omega (arith, count) in (
      ap length is ∙ length-append sums (next ∷ []) ∙ ap (λ n. n + 1) count,
      sym (ap (λ xs. slice_index xs (place + 1 - 1)) is ∙ get_or_push sums next 0 (place + 1 - 1) (sym here)),
    )

pub one_sum_more : (steps : List (ℕ × ℕ)) (sums new : List ℕ) (place sum next : ℕ) (last : ℕ × ℕ) → new ≡ sums ++ next ∷ [] → length sums ≡ place → AreFirstSums steps sums
    → (0 < place → sum ≡ slice_index sums (place - 1)) → (0 < place → last ≡ slice_index_or steps (place - 1) (0, 0)) → (time_at steps place ≡ 0 → next ≡ 0)
    → (0 < time_at steps place → sum + last.1 * (time_at steps place - last.0) < 2 ^ 64 → next ≡ sum + last.1 * (time_at steps place - last.0)) → AreFirstSums steps new
one_sum_more steps sums new place sum next last is count are sum_is last_is anew on =
    subst (AreFirstSums steps) (sym is) (sums_more steps sums place next are count anew (λ before here later fits.
    let some : 0 < place = omega (arith, here) in
    let at : place - 1 ≡ before = omega (arith, here) in
    let old : sum ≡ slice_index sums before = sum_is some ∙ ap (slice_index sums) at in
    let step : last ≡ slice_index_or steps before (0, 0) = last_is some ∙ ap (λ p. slice_index_or steps p (0, 0)) at in
    let both : sum + last.1 * (time_at steps place - last.0) ≡ slice_index sums before + value_at steps before * (time_at steps place - time_at steps before) =
    ap (λ s. s + last.1 * (time_at steps place - last.0)) old ∙ ap (λ (s : ℕ × ℕ). slice_index sums before + s.1 * (time_at steps place - s.0)) step in
    on later (omega (arith, both, fits)) ∙ both))
