use Rattle.std.proofs.Common.{◌≡◌, ◌∙◌, ◌+◌, ◌-◌, ◌*◌, ◌/◌, ◌%◌, ◌<◌, ap, arith, subst, sym, ℕ}
use Rattle.std.proofs.Math.Nat.{div-add-mod}
use Rattle.std.proofs.lemmas.Nat.{mod_below}
use Rattle.ea_travel_times.specs.LastSteps.{IsLastBySpeeds}
use Rattle.ea_travel_times.specs.Speeds.{last_value, speed_at}
use Rattle.ea_travel_times.specs.Times.{mod_of}
use Rattle.ea_travel_times.proofs.Periods.{sum_grows}
use Rattle.ea_travel_times.proofs.SpeedsBy.{at_once, last_is_latest, last_of_sum, latest_of_part, sum_at}
use Rattle.ea_travel_times.proofs.latest_speeds.latest_by_speeds.Goals as goal

pub returns-then-weight-eq0 : goal.returns-then-weight-eq0
returns-then-weight-eq0 c = at_once (speed_at c.args.steps.now c.args.period) c.args.weight c.args.arrival c.requires.range.within c.if-weight-eq0.true

pub time_of_sum-time-requires-clause-sum : goal.time_of_sum-time-requires-clause-sum
time_of_sum-time-requires-clause-sum c =
    let below = mod_below c.args.arrival c.args.period c.requires.speeds.speeds.period_from in
    let grows = sum_grows (last_value 0 c.args.steps.now) (c.args.arrival % c.args.period) c.args.period (omega (arith, below)) in
    record { from_one = omega (arith, c.if-need-sum.true); to_whole = omega (arith, grows, c.sum_before-sum.ensures.is, c.if-need-sum.true, c.if-weight-eq0.false) }

pub returns-then-need-sum : goal.returns-then-need-sum
returns-then-need-sum c =
    let below = mod_below c.args.arrival c.args.period c.requires.speeds.speeds.period_from in
    let parts = div-add-mod c.args.arrival c.args.period in
    let need : 0 < 1000 * c.args.weight = omega (arith, c.if-weight-eq0.false) in
    let found = last_of_sum c.args.period c.args.steps.now (c.args.arrival / c.args.period) (c.args.arrival % c.args.period) c.args.arrival (1000 * c.args.weight) (c.args.arrival / c.args.period)
    (c.sum_before-sum.result - 1000 * c.args.weight + 1) c.time_of_sum-time.result (sym parts) (omega (arith, below)) need
    (omega (arith, c.sum_before-sum.ensures.is, c.if-need-sum.true)) c.time_of_sum-time.ensures.is c.time_of_sum-time.ensures.within in
    let place : c.args.period * (c.args.arrival / c.args.period) + c.time_of_sum-time.result - 1 ≡ c.args.arrival - c.args.arrival % c.args.period + c.time_of_sum-time.result - 1 = omega (arith, parts) in
    last_is_latest (speed_at c.args.steps.now c.args.period) c.args.weight c.args.arrival c.requires.range.within _
    (subst (λ (t : ℕ). IsLastBySpeeds (speed_at c.args.steps.now c.args.period) c.args.arrival (1000 * c.args.weight) t) place found)

pub last_before-requires-clause-begin : goal.last_before-requires-clause-begin
last_before-requires-clause-begin c =
    let parts = div-add-mod c.args.arrival c.args.period in
    let begin : c.args.arrival - c.args.arrival % c.args.period ≡ c.args.period * (c.args.arrival / c.args.period) + 0 = omega (arith, parts) in
    record {
      begins = ap (λ n. n % c.args.period) begin ∙ mod_of c.args.period (c.args.arrival / c.args.period) 0 c.requires.speeds.speeds.period_from;
      within = omega (arith, c.requires.range.within);
    }

pub returns : goal.returns
returns c =
    let below = mod_below c.args.arrival c.args.period c.requires.speeds.speeds.period_from in
    let parts = div-add-mod c.args.arrival c.args.period in
    let whole = sum_at c.args.period c.args.steps.now (c.args.arrival / c.args.period) (c.args.arrival % c.args.period) c.args.arrival (sym parts) (omega (arith, below)) in
    let begin = sum_at c.args.period c.args.steps.now (c.args.arrival / c.args.period) 0 (c.args.arrival - c.args.arrival % c.args.period) (omega (arith, parts)) (omega arith) in
    latest_of_part (speed_at c.args.steps.now c.args.period) c.args.weight c.args.arrival (c.args.arrival - c.args.arrival % c.args.period) c.sum_before-sum.result c.last_before.result c.requires.range.within (omega arith) c.if-need-sum.false
    (omega (arith, whole, begin, c.sum_before-sum.ensures.is)) c.last_before.ensures
