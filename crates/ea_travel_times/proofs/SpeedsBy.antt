-- The latest departure by speeds is the last time from which they sum to a thousand times the weight.
use Rattle.std.proofs.Common.{◌≡◌, ℕ, ◌+◌, ◌-◌, ◌*◌, ◌<◌, ◌≤◌, inl, inr, ap, ◌∙◌, arith, List}
use Rattle.std.proofs.lemmas.Bool.Decides.{leb_tells}
use Rattle.std.specs.Prelude.{MatchOption, None, Option, Some}
use Rattle.ea_base.specs.declared.limits.TheConstants.{HORIZON}
use Rattle.ea_travel_times.specs.Departures.{IsDepartureBy, IsInTime, IsLatest}
use Rattle.ea_travel_times.specs.LastSteps.{IsLastBySpeeds}
use Rattle.ea_travel_times.specs.SpeedLaws.{speeds_have_answer}
use Rattle.ea_travel_times.specs.Speeds.{speed_at, speed_sum, sum_to, IsArrivalBySpeeds, IsTimeOfSum}
use Rattle.ea_travel_times.proofs.Periods.{sum_by_way, sum_from_zero, sum_grows}

module _ (speed : ℕ → ℕ) (weight arrival : ℕ) (within : arrival ≤ HORIZON) where
  -- what is left in time leaves room for the weight
  room_of : (departure : ℕ) (is : IsInTime (λ class. IsArrivalBySpeeds speed) 0 weight arrival departure) → speed_sum speed 0 departure + 1000 * weight ≤ speed_sum speed 0 arrival
  room_of departure is =
      let answer = is.answer in
      let reached = answer.passed (omega (arith, is.by, within)) in
      let whole = sum_by_way speed departure is.reached answer.not_before in
      let grows = sum_grows speed is.reached arrival is.by in
      omega (arith, reached, whole, grows)

  pub last_is_latest : (last : ℕ) → IsLastBySpeeds speed arrival (1000 * weight) last → IsDepartureBy (λ class. IsArrivalBySpeeds speed) 0 weight arrival last
  last_is_latest last is =
      let before = is.before in
      let has = speeds_have_answer speed weight last (omega (arith, before, within)) in
      let whole = sum_by_way speed last arrival (omega (arith, before)) in
      let enough = is.enough in
      record {
        in_time = record {
          within = omega (arith, before, within);
          reached = has.0;
          answer = has.1;
          by = has.1.least arrival (omega (arith, before)) (omega (arith, whole, enough));
        };
        latest = λ later in_time. elim (leb_tells later last) [
          | inl low ↦ low.1
          | inr high ↦
              let room = room_of later in_time in
              let grows = sum_grows speed (last + 1) later (omega (arith, high.1)) in
              let late = is.late in
              absurd (omega (arith, room, grows, late))
        ];
      }

  pub never_in_time : speed_sum speed 0 arrival < 1000 * weight → IsLatest (λ class. IsArrivalBySpeeds speed) 0 weight arrival None
  never_in_time few departure in_time = let room = room_of departure in_time in omega (arith, room, few)

  -- with no weight one arrives at once
  pub at_once : weight ≡ 0 → IsDepartureBy (λ class. IsArrivalBySpeeds speed) 0 weight arrival arrival
  at_once none =
      let nothing : 1000 * weight ≡ 0 = omega (arith, none) in
      record {
        in_time = record {
          within = within;
          reached = arrival;
          answer = record { not_before = omega arith; capped = omega (arith, within); passed = λ inside. omega (arith, nothing); least = λ other order has. order };
          by = omega arith;
        };
        latest = λ later in_time. let after = in_time.answer.not_before in let by = in_time.by in omega (arith, after, by);
      }

-- what is missing at a time is what the speeds from then on don't reach
pub last_of_part : (speed : ℕ → ℕ) (begin arrival need sum last : ℕ) → begin ≤ arrival → sum < need → speed_sum speed 0 arrival ≡ speed_sum speed 0 begin + sum → IsLastBySpeeds speed begin (need - sum) last → IsLastBySpeeds speed arrival need last
last_of_part speed begin arrival need sum last order less parts is =
    let before = is.before in
    let enough = is.enough in
    let late = is.late in
    record { before = omega (arith, before, order); enough = omega (arith, enough, parts, less); late = omega (arith, late, parts, less) }

-- what is found for the part until a period's beginning
pub latest_of_part : (speed : ℕ → ℕ) (weight arrival begin sum : ℕ) (result : Option ℕ) → arrival ≤ HORIZON → begin ≤ arrival → sum < 1000 * weight → speed_sum speed 0 arrival ≡ speed_sum speed 0 begin + sum
    → MatchOption result (speed_sum speed 0 begin < 1000 * weight - sum) (IsLastBySpeeds speed begin (1000 * weight - sum)) → IsLatest (λ class. IsArrivalBySpeeds speed) 0 weight arrival result
latest_of_part speed weight arrival begin sum None within order less parts few = never_in_time speed weight arrival within (omega (arith, few, parts, less))
latest_of_part speed weight arrival begin sum (Some last) within order less parts is = last_is_latest speed weight arrival within last (last_of_part speed begin arrival (1000 * weight) sum last order less parts is)

module _ (period : ℕ) (steps : List (ℕ × ℕ)) where
  pub sum_at : (turns phase time : ℕ) → time ≡ period * turns + phase → phase ≤ period → speed_sum (speed_at steps period) 0 time ≡ turns * sum_to steps period + sum_to steps phase
  sum_at turns phase time is within = ap (speed_sum (speed_at steps period) 0) is ∙ sum_from_zero period steps turns phase within

  -- the first time of a period with one more than a sum is that after the last with no more than it
  pub last_of_sum : (turns phase until need fewer sum time : ℕ) → until ≡ period * turns + phase → phase ≤ period → 0 < need → fewer * sum_to steps period + sum + need ≡ turns * sum_to steps period + sum_to steps phase + 1
      → IsTimeOfSum steps sum time → time ≤ period → IsLastBySpeeds (speed_at steps period) until need (period * fewer + time - 1)
  last_of_sum turns phase until need fewer sum time is inside some same of within =
      let one = of.from_one in
      let sooner = of.not_sooner in
      let passed = of.passed in
      let whole = sum_at turns phase until is inside in
      let last = sum_at fewer (time - 1) (period * fewer + time - 1) (omega (arith, one)) (omega (arith, within)) in
      let next = sum_at fewer time (period * fewer + time - 1 + 1) (omega (arith, one)) within in
      let enough : speed_sum (speed_at steps period) 0 (period * fewer + time - 1) + need ≤ speed_sum (speed_at steps period) 0 until = omega (arith, whole, last, sooner, same) in
      record {
        before = elim (leb_tells until (period * fewer + time - 1)) [
          | inl late ↦
              let grows = sum_grows (speed_at steps period) until (period * fewer + time - 1) late.1 in
              absurd (omega (arith, grows, enough, some))
          | inr early ↦ early.1
        ];
        enough = enough;
        late = omega (arith, whole, next, passed, same);
      }
