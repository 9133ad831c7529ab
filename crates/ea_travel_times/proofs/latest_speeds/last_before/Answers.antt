use Rattle.std.proofs.Common.{◌≡◌, ◌∙◌, ◌+◌, ◌-◌, ◌*◌, ◌/◌, ◌≤◌, ◌<◌, ap, arith, subst, sym, ℕ}
use Rattle.std.proofs.Math.Nat.{add-mul, div-add-mod, mul-add, mul-le-mul_left, mul_comm}
use Rattle.std.proofs.lemmas.Grind.{div_ceil_times}
use Rattle.ea_travel_times.specs.LastSteps.{IsLastBySpeeds}
use Rattle.ea_travel_times.specs.Speeds.{speed_at, sum_to}
use Rattle.ea_travel_times.proofs.SpeedsBy.{last_of_sum, sum_at}
use Rattle.ea_travel_times.proofs.latest_speeds.last_before.Goals as goal

-- with fewer whole periods before the beginning than are missing, too little moves
few_turns : (turns whole need before : ℕ) → turns * whole < need + whole → before < turns → before * whole < need
few_turns turns whole need before near more =
    let order = mul-le-mul_left {m = before + 1} {n = turns} whole (omega (arith, more)) in
    let product : whole * (before + 1) ≡ before * whole + whole = omega arith in
    let turned : whole * turns ≡ turns * whole = omega arith in
    omega (arith, near, order, product, turned)

pub returns-then-turns-begin : goal.returns-then-turns-begin
returns-then-turns-begin c =
    let period = c.args.period in
    let begin = c.args.begin in
    let round = div_ceil_times c.args.need c.sum_of_period-whole.result c.sum_of_period-whole.ensures.some in
    let parts = div-add-mod c.args.begin c.args.period in
    let turns : c.div_ceil-turns.result * c.sum_of_period-whole.result < c.args.need + c.sum_of_period-whole.result = rw (c.div_ceil-turns.ensures) round.1 in
    let few = few_turns c.div_ceil-turns.result c.sum_of_period-whole.result c.args.need (c.args.begin / c.args.period) turns c.if-turns-begin.true in
    let at = sum_at c.args.period c.args.steps.now (c.args.begin / c.args.period) 0 c.args.begin (omega (arith, parts, c.requires.begin.begins)) (omega arith) in
    let same : (c.args.begin / c.args.period) * c.sum_of_period-whole.result ≡ (c.args.begin / c.args.period) * sum_to c.args.steps.now c.args.period = ap (λ n. (c.args.begin / c.args.period) * n) c.sum_of_period-whole.ensures.sum.is in
    omega (arith, few, at, same)

pub returns : goal.returns
returns c =
    let round = div_ceil_times c.args.need c.sum_of_period-whole.result c.sum_of_period-whole.ensures.some in
    let parts = div-add-mod c.args.begin c.args.period in
    let enough : c.args.need ≤ c.div_ceil-turns.result * c.sum_of_period-whole.result = rw (c.div_ceil-turns.ensures) round.0 in
    let before : ℕ = c.args.begin / c.args.period in
    let fewer : ℕ = c.args.begin / c.args.period - c.div_ceil-turns.result in
    let back : c.args.begin / c.args.period - c.div_ceil-turns.result + c.div_ceil-turns.result ≡ c.args.begin / c.args.period = omega (arith, c.if-turns-begin.false) in
    let whole = add-mul (c.args.begin / c.args.period - c.div_ceil-turns.result) c.div_ceil-turns.result c.sum_of_period-whole.result in
    let sums : (c.args.begin / c.args.period - c.div_ceil-turns.result) * c.sum_of_period-whole.result + c.div_ceil-turns.result * c.sum_of_period-whole.result ≡ (c.args.begin / c.args.period) * c.sum_of_period-whole.result =
    sym whole ∙ ap (λ n. n * c.sum_of_period-whole.result) back in
    let times = mul-add c.args.period (c.args.begin / c.args.period - c.div_ceil-turns.result) c.div_ceil-turns.result in
    let periods : c.args.period * (c.args.begin / c.args.period - c.div_ceil-turns.result) + c.args.period * c.div_ceil-turns.result ≡ c.args.period * (c.args.begin / c.args.period) = sym times ∙ ap (λ n. c.args.period * n) back in
    let turned = mul_comm c.div_ceil-turns.result c.args.period in
    let is : c.sum_of_period-whole.result ≡ sum_to c.args.steps.now c.args.period = c.sum_of_period-whole.ensures.sum.is in
    let first : (c.args.begin / c.args.period - c.div_ceil-turns.result) * c.sum_of_period-whole.result ≡ (c.args.begin / c.args.period - c.div_ceil-turns.result) * sum_to c.args.steps.now c.args.period = ap (λ n. (c.args.begin / c.args.period - c.div_ceil-turns.result) * n) is in
    let last : (c.args.begin / c.args.period) * c.sum_of_period-whole.result ≡ (c.args.begin / c.args.period) * sum_to c.args.steps.now c.args.period = ap (λ n. (c.args.begin / c.args.period) * n) is in
    let found = last_of_sum c.args.period c.args.steps.now (c.args.begin / c.args.period) 0 c.args.begin c.args.need (c.args.begin / c.args.period - c.div_ceil-turns.result) (c.div_ceil-turns.result * c.sum_of_period-whole.result - c.args.need + 1) c.time_of_sum-time.result
    (omega (arith, parts, c.requires.begin.begins)) (omega arith) c.requires.need (omega (arith, sums, enough, first, last)) c.time_of_sum-time.ensures.is c.time_of_sum-time.ensures.within in
    let one = c.time_of_sum-time.ensures.is.from_one in
    let place : c.args.period * (c.args.begin / c.args.period - c.div_ceil-turns.result) + c.time_of_sum-time.result - 1 ≡ c.args.begin - c.div_ceil-turns.result * c.args.period + c.time_of_sum-time.result - 1 = omega (arith, periods, parts, c.requires.begin.begins, turned, one) in
    subst (λ (t : ℕ). IsLastBySpeeds (speed_at c.args.steps.now c.args.period) c.args.begin c.args.need t) place found
