-- When the sum of speeds that come again each period is first so large.
use Rattle.std.proofs.Common.{◌≡◌, ℕ, zero, suc, ◌+◌, ◌-◌, ◌*◌, ◌<◌, ◌≤◌, ◌⊎◌, inl, inr, Bool, true, false, cond, min, refl, ap, sym, ◌∙◌, arith, leb, List, length}
use Rattle.std.proofs.Math.Nat.{add-mul, mul-add, mul-le-mul_left, mul_comm}
use Rattle.std.proofs.lemmas.Bool.Decides.{leb_tells, nat_tests}
use Rattle.std.specs.Prelude.{nat_lt, slice_index}
use Rattle.std.proofs.lemmas.Grind.{div_ceil_times}
use Rattle.std.specs.Int.{div_ceil}
use Rattle.ea_base.specs.declared.limits.TheConstants.{HORIZON}
use Rattle.ea_travel_times.specs.Speeds.{never, time_at, value_at, last_value, speed_at, speed_sum, sum_to, end_at, AreRunSums, AreSpeeds, IsArrivalBySpeeds, IsInStep, IsTimeOfSum, IsTimeOfSums}
use Rattle.ea_travel_times.specs.SpeedLaws.{sum_on}
use Rattle.ea_travel_times.specs.Times.{mod_of}
use Rattle.ea_travel_times.proofs.Speeding.{end_small, sum_by_step, to_end}

-- ---- within a step

ceiling : (need speed count room : ℕ) → 0 < need → need ≤ count * speed → count * speed < need + speed → need ≤ speed * room → (0 < count) × (count ≤ room)
ceiling need speed zero room some reaches near fits = absurd (omega (arith, some, reaches))
ceiling need speed (suc count) room some reaches near fits = (
  omega arith,
  elim (leb_tells (suc count) room) [
    | inl low ↦ low.1
    | inr high ↦
        let over : room ≤ count = omega (arith, high.1) in
        let more = mul-le-mul_left speed over in
        let parts : suc count * speed ≡ speed * count + speed = omega arith in
        absurd (omega (arith, more, parts, near, fits))
  ],
)

module _ (period : ℕ) (steps : List (ℕ × ℕ)) (are : AreSpeeds period steps) where
  between : (place from to : ℕ) → place < length steps → time_at steps place ≤ from → from ≤ to → to ≤ end_at period steps place → sum_to steps to ≡ sum_to steps from + value_at steps place * (to - from)
  between place from to found early order late =
      let first = sum_by_step period steps are place from found early (omega (arith, order, late)) in
      let last = sum_by_step period steps are place to found (omega (arith, order, early)) late in
      let parts : to - time_at steps place ≡ (from - time_at steps place) + (to - from) = omega arith in
      let product : value_at steps place * (to - time_at steps place) ≡ value_at steps place * (from - time_at steps place) + value_at steps place * (to - from) =
      ap (λ n. value_at steps place * n) parts ∙ mul-add (value_at steps place) (from - time_at steps place) (to - from) in
      omega (arith, first, last, product)

  pub speed_moves : (place from to : ℕ) → place < length steps → time_at steps place ≤ from → from ≤ to → to ≤ end_at period steps place → sum_to steps from < sum_to steps to → 0 < value_at steps place
  speed_moves place from to found early order late more = go (value_at steps place) (between place from to found early order late)
    where
      go : (speed : ℕ) → sum_to steps to ≡ sum_to steps from + speed * (to - from) → 0 < speed
      go zero is = absurd (omega (arith, is, more))
      go (suc speed) is = omega arith

  -- the count of times of a step at its speed, rounded up, is the first with that large a sum
  pub time_in_step : (place from need count : ℕ) → place < length steps → time_at steps place ≤ from → from ≤ end_at period steps place → 0 < need → sum_to steps from + need ≤ sum_to steps (end_at period steps place)
      → need ≤ count * value_at steps place → count * value_at steps place < need + value_at steps place
      → IsTimeOfSum steps (sum_to steps from + need) (from + count) × (from + count ≤ end_at period steps place)
  time_in_step place from need count found early late some fits reaches near =
      let speed : ℕ = value_at steps place in
      let end : ℕ = end_at period steps place in
      let whole = between place from (end_at period steps place) found early late (omega arith) in
      let room = ceiling need (value_at steps place) count (end_at period steps place - from) some reaches near (omega (arith, whole, fits)) in
      let inside : from + count ≤ end_at period steps place = omega (arith, room.1, late) in
      let last = between place from (from + count) found early (omega arith) inside in
      let sooner = between place from (from + count - 1) found early (omega (arith, room.0)) (omega (arith, inside)) in
      let turned : value_at steps place * (from + count - from) ≡ count * value_at steps place = omega (arith, ap (λ n. value_at steps place * n) (back from count)) in
      let fewer : value_at steps place * (from + count - 1 - from) + value_at steps place ≡ count * value_at steps place = one_less from count (value_at steps place) room.0 in
      (record { from_one = omega (arith, room.0); passed = omega (arith, last, turned, reaches); not_sooner = omega (arith, sooner, fewer, near) }, inside)
    where
      back : (from count : ℕ) → from + count - from ≡ count
      back from count = omega arith

      one_less : (from count speed : ℕ) → 0 < count → speed * (from + count - 1 - from) + speed ≡ count * speed
      one_less from zero speed some = absurd (omega (arith, some))
      one_less from (suc count) speed some =
          let same : from + suc count - 1 - from ≡ count = omega arith in
          let product : suc count * speed ≡ speed * count + speed = omega arith in
          rw same (sym product)

-- ---- over the periods

shifted : (again once : ℕ → ℕ) (from count : ℕ) → ((time : ℕ) → time < count → again (from + time) ≡ once time) → speed_sum again from count ≡ speed_sum once 0 count
shifted again once from zero same = refl
shifted again once from (suc count) same =
    let before = shifted again once from count (λ time below. same time (omega (arith, below))) in
    let last = same count (omega arith) in
    let here : 0 + count ≡ count = omega arith in
    rw here (omega (arith, before, last))

module _ (period : ℕ) (steps : List (ℕ × ℕ)) where
  one_turn : (turns count : ℕ) → count ≤ period → speed_sum (speed_at steps period) (period * turns) count ≡ sum_to steps count
  one_turn turns count within =
      shifted (speed_at steps period) (last_value 0 steps) (period * turns) count (λ time below. ap (last_value 0 steps) (mod_of period turns time (omega (arith, below, within))))

  whole_turns : (turns : ℕ) → speed_sum (speed_at steps period) 0 (period * turns) ≡ turns * sum_to steps period
  whole_turns zero = let none : period * 0 ≡ 0 = omega arith in rw none (omega arith)
  whole_turns (suc turns) =
      let next : period * suc turns ≡ period * turns + period = omega arith in
      let parts = sum_on (speed_at steps period) 0 (period * turns) period in
      let here : 0 + period * turns ≡ period * turns = omega arith in
      let before = whole_turns turns in
      let last = one_turn turns period (omega arith) in
      let product : suc turns * sum_to steps period ≡ turns * sum_to steps period + sum_to steps period = omega arith in
      rw next (omega (arith, rw here at parts, before, last, product))

  pub sum_from_zero : (turns count : ℕ) → count ≤ period → speed_sum (speed_at steps period) 0 (period * turns + count) ≡ turns * sum_to steps period + sum_to steps count
  sum_from_zero turns count within =
      let parts = sum_on (speed_at steps period) 0 (period * turns) count in
      let here : 0 + period * turns ≡ period * turns = omega arith in
      omega (arith, rw here at parts, whole_turns turns, one_turn turns count within)

pub sum_grows : (speed : ℕ → ℕ) (first last : ℕ) → first ≤ last → speed_sum speed 0 first ≤ speed_sum speed 0 last
sum_grows speed first last order =
    let same : first + (last - first) ≡ last = omega arith in
    let parts = sum_on speed 0 first (last - first) in
    omega (arith, rw same at parts)

-- from zero on to a time, by way of an earlier one
pub sum_by_way : (speed : ℕ → ℕ) (first last : ℕ) → first ≤ last → speed_sum speed 0 last ≡ speed_sum speed 0 first + speed_sum speed first (last - first)
sum_by_way speed first last order =
    let same : first + (last - first) ≡ last = omega arith in
    let here : 0 + first ≡ first = omega arith in
    let parts = sum_on speed 0 first (last - first) in
    rw (same, here) at parts

-- a time before which the sum is too small, and at which it is large enough, is the arrival
first_time : (speed : ℕ → ℕ) (weight departure time arrival : ℕ) → departure ≤ HORIZON → 0 < weight → 0 < time → speed_sum speed 0 departure + 1000 * weight ≤ speed_sum speed 0 time
    → speed_sum speed 0 (time - 1) < speed_sum speed 0 departure + 1000 * weight → arrival ≡ min time never → IsArrivalBySpeeds speed weight departure arrival
first_time speed weight departure time arrival early some from_one reached sooner is = record {
  not_before = omega (arith, is, after, early);
  capped = omega (arith, is);
  passed = λ inside. passed (omega (arith, is, inside));
  least = λ other order has. let low = not_later other order has (leb_tells time other) in omega (arith, low, is);
}
  where
    later : ((leb departure time ≡ true) × (departure ≤ time)) ⊎ ((leb departure time ≡ false) × (time < departure)) → departure ≤ time
    later (inl low) = low.1
    later (inr high) = let grows = sum_grows speed time departure (omega (arith, high.1)) in absurd (omega (arith, grows, reached, some))

    after : departure ≤ time
    after = later (leb_tells departure time)

    passed : arrival ≡ time → 1000 * weight ≤ speed_sum speed departure (arrival - departure)
    passed last = let whole = sum_by_way speed departure time after in rw last (omega (arith, whole, reached))

    not_later : (other : ℕ) → departure ≤ other → 1000 * weight ≤ speed_sum speed departure (other - departure) → ((leb time other ≡ true) × (time ≤ other)) ⊎ ((leb time other ≡ false) × (other < time)) → time ≤ other
    not_later other order has (inl low) = low.1
    not_later other order has (inr high) =
        let whole = sum_by_way speed departure other order in
        let grows = sum_grows speed other (time - 1) (omega (arith, high.1)) in
        absurd (omega (arith, whole, grows, has, sooner))

-- the arrival of a departure at a phase of its period
pub arrival_of : (period : ℕ) (steps : List (ℕ × ℕ)) (weight departure turn phase arrival : ℕ) → departure ≤ HORIZON → departure ≡ period * turn + phase → phase < period → 0 < weight
    → IsTimeOfSums period steps (departure - phase) (sum_to steps phase + 1000 * weight) arrival → IsArrivalBySpeeds (speed_at steps period) weight departure arrival
arrival_of period steps weight departure turn phase arrival early is below some of =
    let speed : ℕ → ℕ = speed_at steps period in
    let whole : ℕ = sum_to steps period in
    let all : ℕ = turn + of.turns in
    let begin : speed_sum (speed_at steps period) 0 departure ≡ turn * sum_to steps period + sum_to steps phase = ap (speed_sum (speed_at steps period) 0) is ∙ sum_from_zero period steps turn phase (omega (arith, below)) in
    let end = sum_from_zero period steps (turn + of.turns) of.time of.within in
    let sooner = sum_from_zero period steps (turn + of.turns) (of.time - 1) (omega (arith, of.within)) in
    let parts = add-mul turn of.turns (sum_to steps period) in
    let times = mul-add period turn of.turns in
    let turned = mul_comm of.turns period in
    let back : period * (turn + of.turns) + of.time - 1 ≡ period * (turn + of.turns) + (of.time - 1) = omega (arith, of.in_period.from_one) in
    first_time (speed_at steps period) weight departure (period * (turn + of.turns) + of.time) arrival early some
    (omega (arith, of.in_period.from_one))
    (omega (arith, begin, end, parts, of.in_period.passed, of.fits))
    (rw back (omega (arith, begin, sooner, parts, of.in_period.not_sooner, of.fits)))
    (of.arrives ∙ ap (λ n. min n never) (omega (arith, is, times, turned)))

-- ---- what the searches find

module _ (period : ℕ) (steps : List (ℕ × ℕ)) (sums : List ℕ) (are : AreSpeeds period steps) (beside : AreRunSums steps sums) where
  first_sum : slice_index sums 0 ≡ 0
  first_sum = beside.each 0 are.some ∙ ap (sum_to steps) are.from_zero

  -- the step in which the sum is first so large
  pub step_found : (sum place : ℕ) → 0 < sum → sum ≤ sum_to steps period → place ≤ length sums → (0 < place → slice_index sums (place - 1) < sum) → (place < length sums → sum ≤ slice_index sums place)
      → (place - 1 < length steps) × (0 < place) × (slice_index sums (place - 1) ≡ sum_to steps (time_at steps (place - 1))) × (slice_index sums (place - 1) < sum) × (sum ≤ sum_to steps (end_at period steps (place - 1)))
  step_found sum zero some whole inside before after = let large = after (omega (arith, beside.count, are.some)) in absurd (omega (arith, large, first_sum, some))
  step_found sum (suc place) some whole inside before after =
      let back : suc place - 1 ≡ place = omega arith in
      let low : slice_index sums place < sum = rw back at (before (omega arith)) in
      let found : place < length steps = omega (arith, inside, beside.count) in
      rw back (found, omega arith, beside.each place found, low, enough (nat_lt (place + 1) (length steps)) refl)
    where
      next : suc place ≡ place + 1
      next = omega arith

      enough : (b : Bool) → nat_lt (place + 1) (length steps) ≡ b → sum ≤ sum_to steps (cond b (time_at steps (place + 1)) period)
      enough true is =
          let room : place + 1 < length steps = grind (arith, nat_tests) in
          let large : sum ≤ slice_index sums (place + 1) = rw next at (after (omega (arith, room, beside.count))) in
          let same = beside.each (place + 1) room in
          omega (arith, large, same)
      enough false is = whole

  pub sum_moves : (sum place : ℕ) → 0 < sum → sum ≤ sum_to steps period → place ≤ length sums → (0 < place → slice_index sums (place - 1) < sum) → (place < length sums → sum ≤ slice_index sums place) → 0 < value_at steps (place - 1)
  sum_moves sum place some whole inside before after =
      let found = step_found sum place some whole inside before after in
      let end = to_end period steps are (place - 1) found.0 in
      speed_moves period steps are (place - 1) (time_at steps (place - 1)) (end_at period steps (place - 1)) found.0 (omega arith) (omega (arith, end)) (omega arith) (omega (arith, found.2, found.3, found.4))

  pub time_found : (sum place count : ℕ) → 0 < sum → sum ≤ sum_to steps period → place ≤ length sums → (0 < place → slice_index sums (place - 1) < sum) → (place < length sums → sum ≤ slice_index sums place)
      → count ≡ div_ceil (sum - slice_index sums (place - 1)) (value_at steps (place - 1)) → IsTimeOfSum steps sum (time_at steps (place - 1) + count) × (time_at steps (place - 1) + count ≤ period)
  time_found sum place count some whole inside before after is =
      let found = step_found sum place some whole inside before after in
      let moves = sum_moves sum place some whole inside before after in
      let end = to_end period steps are (place - 1) found.0 in
      let last = end_small period steps are (place - 1) in
      let round = div_ceil_times (sum - slice_index sums (place - 1)) (value_at steps (place - 1)) moves in
      let product : count * value_at steps (place - 1) ≡ div_ceil (sum - slice_index sums (place - 1)) (value_at steps (place - 1)) * value_at steps (place - 1) = ap (λ n. n * value_at steps (place - 1)) is in
      let whole_sum : sum_to steps (time_at steps (place - 1)) + (sum - slice_index sums (place - 1)) ≡ sum = omega (arith, found.2, found.3) in
      let time = time_in_step period steps are (place - 1) (time_at steps (place - 1)) (sum - slice_index sums (place - 1)) count found.0 (omega arith) (omega (arith, end)) (omega (arith, found.3))
      (omega (arith, whole_sum, found.4)) (omega (arith, product, round.0)) (omega (arith, product, round.1)) in
      (rw whole_sum at time.0, omega (arith, time.1, last))

-- the arrival lies in the step of the departure
module _ (period : ℕ) (steps : List (ℕ × ℕ)) (are : AreSpeeds period steps) where
  inside_step : (place phase : ℕ) → IsInStep steps phase place → phase < period → phase ≤ end_at period steps place
  inside_step place phase at below = one (nat_lt (place + 1) (length steps)) refl
    where
      one : (b : Bool) → nat_lt (place + 1) (length steps) ≡ b → phase ≤ cond b (time_at steps (place + 1)) period
      one true is = let room : place + 1 < length steps = grind (arith, nat_tests) in let early = at.not_after room in omega (arith, early)
      one false is = omega (arith, below)

  pub step_moves : (place phase need sum reach : ℕ) → IsInStep steps phase place → phase < period → 0 < need → sum ≡ sum_to steps phase + need → sum ≤ reach → reach ≡ sum_to steps (end_at period steps place) → 0 < value_at steps place
  step_moves place phase need sum reach at below some is fits end =
      let late = inside_step place phase at below in
      speed_moves period steps are place phase (end_at period steps place) at.found at.not_before late (omega arith) (omega (arith, is, fits, end, some))

  pub in_one_step : (weight departure place phase count sum reach arrival : ℕ) → phase ≤ departure → IsInStep steps phase place → phase < period → 0 < weight → sum ≡ sum_to steps phase + 1000 * weight → sum ≤ reach → reach ≡ sum_to steps (end_at period steps place)
      → count ≡ div_ceil (1000 * weight) (value_at steps place) → arrival ≡ min (departure + count) never → IsTimeOfSums period steps (departure - phase) (sum_to steps phase + 1000 * weight) arrival
  in_one_step weight departure place phase count sum reach arrival early at below some is fits end count_is arrival_is =
      let moves = step_moves place phase (1000 * weight) sum reach at below (omega (arith, some)) is fits end in
      let round = div_ceil_times (1000 * weight) (value_at steps place) moves in
      let product : count * value_at steps place ≡ div_ceil (1000 * weight) (value_at steps place) * value_at steps place = ap (λ n. n * value_at steps place) count_is in
      let time = time_in_step period steps are place phase (1000 * weight) count at.found at.not_before (inside_step place phase at below) (omega (arith, some)) (omega (arith, is, fits, end)) (omega (arith, product, round.0)) (omega (arith, product, round.1)) in
      let none : 0 * sum_to steps period ≡ 0 = omega arith in
      let all : sum_to steps phase + 1000 * weight - 0 * sum_to steps period ≡ sum_to steps phase + 1000 * weight = omega (arith, none) in
      let last = end_small period steps are place in
      record {
        turns = 0;
        time = phase + count;
        fits = omega (arith, none);
        in_period = rw all time.0;
        within = omega (arith, time.1, last);
        arrives = omega (arith, arrival_is, early);
      }

  -- what moves at all moves in a period
  pub whole_moves : 0 < sum_to steps period
  whole_moves = by_sum (leb_tells 1 (sum_to steps period))
    where
      still : sum_to steps period < 1 → (place : ℕ) → place < length steps → value_at steps place ≡ 0
      still none place found = by_speed (value_at steps place) (sum_by_step period steps are place (end_at period steps place) found (omega (arith, to_end period steps are place found)) (omega arith))
        where
          by_speed : (speed : ℕ) → sum_to steps (end_at period steps place) ≡ sum_to steps (time_at steps place) + speed * (end_at period steps place - time_at steps place) → speed ≡ 0
          by_speed zero is = refl
          by_speed (suc speed) is =
              let grows = sum_grows (last_value 0 steps) (end_at period steps place) period (end_small period steps are place) in
              let more = to_end period steps are place found in
              let product : suc speed * (end_at period steps place - time_at steps place) ≡ speed * (end_at period steps place - time_at steps place) + (end_at period steps place - time_at steps place) = omega arith in
              absurd (omega (arith, is, grows, more, product, none))

      by_sum : ((leb 1 (sum_to steps period) ≡ true) × (1 ≤ sum_to steps period)) ⊎ ((leb 1 (sum_to steps period) ≡ false) × (sum_to steps period < 1)) → 0 < sum_to steps period
      by_sum (inl some) = omega (arith, some.1)
      by_sum (inr none) = absurd (are.moves (still none.1))
