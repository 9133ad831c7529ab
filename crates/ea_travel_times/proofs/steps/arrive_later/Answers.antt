use Rattle.std.proofs.Common.{◌≤◌, ◌*◌, inl, inr, arith}
use Rattle.ea_travel_times.proofs.Turns.{turns_of}
use Rattle.ea_travel_times.proofs.steps.arrive_later.Goals as goal
use Rattle.ea_travel_times.proofs.steps.arrive_later.Goals.{then-sum-whole, else-sum-whole}

pub overflow_mul-turns : goal.overflow_mul-turns
overflow_mul-turns c =
    let left = turns_of _ c.args.sum c.if-sum-whole.turns c.sum_of_period-whole.ensures.some c.requires.from_one (elim c.if-sum-whole.branch [
      | then-sum-whole w ↦ inl (w.if-sum-whole.true, w.turns-is)
      | else-sum-whole w ↦ inr w.turns-is
    ]) in
    omega (arith, left.some_left, c.ranges.sum)

pub overflow_sub-sum : goal.overflow_sub-sum
overflow_sub-sum c =
    let left = turns_of _ c.args.sum c.if-sum-whole.turns c.sum_of_period-whole.ensures.some c.requires.from_one (elim c.if-sum-whole.branch [
      | then-sum-whole w ↦ inl (w.if-sum-whole.true, w.turns-is)
      | else-sum-whole w ↦ inr w.turns-is
    ]) in
    omega (arith, left.some_left)

pub time_of_sum-time-requires-clause-sum : goal.time_of_sum-time-requires-clause-sum
time_of_sum-time-requires-clause-sum c =
    let left = turns_of _ c.args.sum c.if-sum-whole.turns c.sum_of_period-whole.ensures.some c.requires.from_one (elim c.if-sum-whole.branch [
      | then-sum-whole w ↦ inl (w.if-sum-whole.true, w.turns-is)
      | else-sum-whole w ↦ inr w.turns-is
    ]) in
    record { from_one = omega (arith, left.some_left); to_whole = rw (← c.sum_of_period-whole.ensures.sum.is) left.last }

pub returns : goal.returns
returns c =
    let left = turns_of _ c.args.sum c.if-sum-whole.turns c.sum_of_period-whole.ensures.some c.requires.from_one (elim c.if-sum-whole.branch [
      | then-sum-whole w ↦ inl (w.if-sum-whole.true, w.turns-is)
      | else-sum-whole w ↦ inr w.turns-is
    ]) in
    let fits : c.if-sum-whole.turns * c.sum_of_period-whole.result ≤ c.args.sum = omega (arith, left.some_left) in
    record {
      turns = c.if-sum-whole.turns;
      time = c.time_of_sum-time.result;
      fits = rw (← c.sum_of_period-whole.ensures.sum.is) fits;
      in_period = rw (← c.sum_of_period-whole.ensures.sum.is) c.time_of_sum-time.ensures.is;
      within = c.time_of_sum-time.ensures.within;
      arrives = c.after_periods.ensures;
    }
