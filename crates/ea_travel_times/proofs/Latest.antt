-- The latest departures of kinds.
use Rattle.std.proofs.Common.{◌≡◌, false, ℕ, List, ◌+◌, ◌-◌, ◌*◌, ◌/◌, ◌%◌, ◌<◌, ◌≤◌, inl, inr, refl, ap, sym, ◌∙◌, subst, arith}
use Rattle.std.proofs.Math.Nat.{div-add-mod, mod-le, mul-le-mul_left}
use Rattle.std.proofs.lemmas.Bool.Decides.{leb_tells, nat_tests}
use Rattle.std.specs.Prelude.{IsTrue, MatchOption, Option, Some, None}
use Rattle.ea_base.specs.declared.limits.TheConstants.{HORIZON}
use Rattle.ea_base.specs.declared.timetable.RawKind.{RawKind}
use Rattle.ea_base.specs.declared.timetable.RawKind.TheVariants.{Plain, Every, Closed, Rush, Speeds, Trips, Points}
use Rattle.ea_travel_times.specs.Departures.{IsDepartureBy, IsInTime, IsLastTime, IsLatest}
use Rattle.ea_travel_times.specs.TimetableLists.{kind_of, TimetablesAnswer}
use Rattle.ea_travel_times.specs.Times.{next_at}
use Rattle.ea_travel_times.specs.Timetables.{ClassAnswers, IsClass, KindAnswers, has_run, is_kind}

-- a time of the period's offset, of which the next one is too late
pub every_by : (period offset weight arrival turn time : ℕ) → offset < period → time ≡ period * turn + offset → time + weight ≤ arrival → arrival < time + weight + period → arrival ≤ HORIZON
    → IsDepartureBy (λ class. KindAnswers (Every period offset)) 0 weight arrival time
every_by period offset weight arrival turn time below is by near within = record {
  in_time = record {
    within = omega (arith, by, within);
    reached = time + weight;
    answer = (time, next_at period offset time turn time below (omega (arith, is)) (omega (arith, is, below)) is, refl);
    by = by;
  };
  latest = λ later in_time.
      let other = in_time.answer.0 in
      let next = in_time.answer.1 in
      elim (leb_tells other time) [
        | inl early ↦ omega (arith, early.1, next.not_before)
        | inr late ↦
            let product : period * (turn + 1) ≡ period * turn + period = omega arith in
            let after = next_at period offset (time + 1) (turn + 1) (time + period) below (omega (arith, product, is, below)) (omega (arith, product, is, below)) (omega (arith, product, is)) in
            let far = after.least other (omega (arith, late.1)) next.on_offset in
            absurd (omega (arith, far, near, in_time.by, in_time.answer.2))
      ];
}

-- no time of the offset is early enough
pub every_never : (period offset weight arrival : ℕ) → arrival < weight + offset → IsLatest (λ class. KindAnswers (Every period offset)) 0 weight arrival None
every_never period offset weight arrival few departure in_time =
    let next = in_time.answer.1 in
    let low = mod-le in_time.answer.0 period in
    omega (arith, low, next.on_offset, in_time.by, in_time.answer.2, few)

-- what is left is less than a period, if a period less the way back from the offset is more
pub before_first : (period offset left : ℕ) → left % period < offset → offset < period → left < period - (offset - left % period) → left < offset
before_first period offset left rest below few = elim (leb_tells 1 (left / period)) [
  | inl some ↦
      let parts = div-add-mod left period in
      let more = mul-le-mul_left {m = 1} {n = left / period} period some.1 in
      let product : period * 1 ≡ period = omega arith in
      absurd (omega (arith, parts, more, product, few, rest, below))
  | inr none ↦
      let parts = div-add-mod left period in
      let zero_turns : left / period ≡ 0 = omega (arith, none.1) in
      let product : period * (left / period) ≡ 0 = rw zero_turns (omega arith) in
      omega (arith, parts, product, rest)
]

-- with a turn to go back
pub turn_back : (period offset left : ℕ) → left % period < offset → offset < period → period - (offset - left % period) ≤ left → left - (period - (offset - left % period)) ≡ period * (left / period - 1) + offset
turn_back period offset left rest below far = elim (leb_tells 1 (left / period)) [
  | inl some ↦
      let parts = div-add-mod left period in
      let product : period * (left / period - 1 + 1) ≡ period * (left / period - 1) + period = omega arith in
      let same : left / period - 1 + 1 ≡ left / period = omega (arith, some.1) in
      let products : period * (left / period - 1) + period ≡ period * (left / period) = sym product ∙ ap (λ n. period * n) same in
      omega (arith, parts, products, rest, below, far)
  | inr none ↦
      let parts = div-add-mod left period in
      let zero_turns : left / period ≡ 0 = omega (arith, none.1) in
      let product : period * (left / period) ≡ 0 = rw zero_turns (omega arith) in
      absurd (omega (arith, parts, product, rest, far, below))
]

pub last_turn_before : (period offset left : ℕ) → left % period < offset → offset < period → period - (offset - left % period) ≤ left → IsLastTime period offset left (left - (period - (offset - left % period)))
last_turn_before period offset left rest below far = record {
  turn = left / period - 1;
  is = turn_back period offset left rest below far;
  not_after = omega arith;
  near = omega (arith, far, rest, below);
}

pub every_latest : (period offset weight arrival : ℕ) (result : Option ℕ) → offset < period → weight ≤ arrival → arrival ≤ HORIZON → MatchOption result (arrival - weight < offset) (λ time. IsLastTime period offset (arrival - weight) time)
    → IsLatest (λ class. KindAnswers (Every period offset)) 0 weight arrival result
every_latest period offset weight arrival None below has within found = every_never period offset weight arrival (omega (arith, found, has))
every_latest period offset weight arrival (Some time) below has within found =
    every_by period offset weight arrival found.turn time below found.is (omega (arith, found.not_after, has)) (omega (arith, found.near, has)) within

pub offset_below : (period offset : ℕ) → IsTrue (is_kind (Every period offset)) → offset < period
offset_below period offset fits = grind (arith, nat_tests)

-- what holds of a kind holds whichever class it is
other_class : (kind : RawKind) (class other weight arrival departure : ℕ) → IsInTime (λ class. KindAnswers kind) class weight arrival departure → IsInTime (λ class. KindAnswers kind) other weight arrival departure
other_class kind class other weight arrival departure is = record { within = is.within; reached = is.reached; answer = is.answer; by = is.by }

pub any_class : (kind : RawKind) (class weight arrival : ℕ) (result : Option ℕ) → IsLatest (λ class. KindAnswers kind) 0 weight arrival result → IsLatest (λ class. KindAnswers kind) class weight arrival result
any_class kind class weight arrival None none = λ departure is. none departure (other_class kind class 0 weight arrival departure is)
any_class kind class weight arrival (Some latest) is = record {
  in_time = other_class kind 0 class weight arrival latest is.in_time;
  latest = λ later in_time. is.latest later (other_class kind class 0 weight arrival later in_time);
}

-- a kind without steps that is a class has its numbers in range
pub few_fits : (steps : List (ℕ × ℕ)) (kind : RawKind) → has_run kind ≡ false → IsClass steps kind → IsTrue (is_kind kind)
few_fits steps Plain none fits = fits
few_fits steps (Every period offset) none fits = fits
few_fits steps (Closed lo hi) none fits = fits
few_fits steps (Rush lo hi extra) none fits = fits
few_fits steps (Speeds period first count) none fits = cc
few_fits steps (Trips period first count) none fits = cc
few_fits steps (Points period first count) none fits = cc

-- a kind without steps answers in a list as by itself
in_list : (steps : List (ℕ × ℕ)) (kind : RawKind) (weight departure arrival : ℕ) → has_run kind ≡ false → KindAnswers kind weight departure arrival → ClassAnswers steps kind weight departure arrival
in_list steps Plain weight departure arrival none answer = answer
in_list steps (Every period offset) weight departure arrival none answer = answer
in_list steps (Closed lo hi) weight departure arrival none answer = answer
in_list steps (Rush lo hi extra) weight departure arrival none answer = answer
in_list steps (Speeds period first count) weight departure arrival none answer = cc
in_list steps (Trips period first count) weight departure arrival none answer = cc
in_list steps (Points period first count) weight departure arrival none answer = cc

out_of_list : (steps : List (ℕ × ℕ)) (kind : RawKind) (weight departure arrival : ℕ) → has_run kind ≡ false → ClassAnswers steps kind weight departure arrival → KindAnswers kind weight departure arrival
out_of_list steps Plain weight departure arrival none answer = answer
out_of_list steps (Every period offset) weight departure arrival none answer = answer
out_of_list steps (Closed lo hi) weight departure arrival none answer = answer
out_of_list steps (Rush lo hi extra) weight departure arrival none answer = answer
out_of_list steps (Speeds period first count) weight departure arrival none answer = cc
out_of_list steps (Trips period first count) weight departure arrival none answer = cc
out_of_list steps (Points period first count) weight departure arrival none answer = cc

module _ (kinds : List RawKind) (steps : List (ℕ × ℕ)) (class : ℕ) (kind : RawKind) (is : kind_of kinds class ≡ kind) (none : has_run kind ≡ false) where
  into : (weight arrival departure : ℕ) → IsInTime (λ class. KindAnswers kind) 0 weight arrival departure → IsInTime (TimetablesAnswer kinds steps) class weight arrival departure
  into weight arrival departure in_time = record {
    within = in_time.within;
    reached = in_time.reached;
    answer = (let P : RawKind → Type 0 = λ k. ClassAnswers steps k weight departure in_time.reached in subst P (sym is) (in_list steps kind weight departure in_time.reached none in_time.answer));
    by = in_time.by;
  }

  out_of : (weight arrival departure : ℕ) → IsInTime (TimetablesAnswer kinds steps) class weight arrival departure → IsInTime (λ class. KindAnswers kind) 0 weight arrival departure
  out_of weight arrival departure in_time = record {
    within = in_time.within;
    reached = in_time.reached;
    answer = (let P : RawKind → Type 0 = λ k. ClassAnswers steps k weight departure in_time.reached in out_of_list steps kind weight departure in_time.reached none (subst P is in_time.answer));
    by = in_time.by;
  }

  pub latest_in_list : (weight arrival : ℕ) (result : Option ℕ) → IsLatest (λ class. KindAnswers kind) 0 weight arrival result → IsLatest (TimetablesAnswer kinds steps) class weight arrival result
  latest_in_list weight arrival None never = λ departure in_time. never departure (out_of weight arrival departure in_time)
  latest_in_list weight arrival (Some latest) by = record {
    in_time = into weight arrival latest by.in_time;
    latest = λ later in_time. by.latest later (out_of weight arrival later in_time);
  }

-- what holds of a kind holds of its class in a list
module _ (kinds : List RawKind) (steps : List (ℕ × ℕ)) (class : ℕ) (kind : RawKind) (is : kind_of kinds class ≡ kind) where
  in_class : (weight arrival departure : ℕ) → IsInTime (λ class. ClassAnswers steps kind) 0 weight arrival departure → IsInTime (TimetablesAnswer kinds steps) class weight arrival departure
  in_class weight arrival departure in_time = record {
    within = in_time.within;
    reached = in_time.reached;
    answer = (let P : RawKind → Type 0 = λ k. ClassAnswers steps k weight departure in_time.reached in subst P (sym is) in_time.answer);
    by = in_time.by;
  }

  of_class : (weight arrival departure : ℕ) → IsInTime (TimetablesAnswer kinds steps) class weight arrival departure → IsInTime (λ class. ClassAnswers steps kind) 0 weight arrival departure
  of_class weight arrival departure in_time = record {
    within = in_time.within;
    reached = in_time.reached;
    answer = (let P : RawKind → Type 0 = λ k. ClassAnswers steps k weight departure in_time.reached in subst P is in_time.answer);
    by = in_time.by;
  }

  pub latest_in_class : (weight arrival : ℕ) (result : Option ℕ) → IsLatest (λ class. ClassAnswers steps kind) 0 weight arrival result → IsLatest (TimetablesAnswer kinds steps) class weight arrival result
  latest_in_class weight arrival None never = λ departure in_time. never departure (of_class weight arrival departure in_time)
  latest_in_class weight arrival (Some latest) by = record {
    in_time = in_class weight arrival latest by.in_time;
    latest = λ later in_time. by.latest later (of_class weight arrival later in_time);
  }
