use Rattle.std.proofs.Common.{arith}
use Rattle.ea_travel_times.proofs.Periods.{sum_moves, time_found}
use Rattle.ea_travel_times.proofs.steps.time_of_sum.Goals as goal

pub div_ceil-requires : goal.div_ceil-requires
div_ceil-requires c =
    let found = c.sums_before-place.ensures in
    sum_moves c.args.period c.args.steps.now c.args.sums.now c.requires.speeds.speeds c.requires.speeds.sums_are c.args.sum c.sums_before-place.result c.requires.sum.from_one c.requires.sum.to_whole found.inside found.before found.after

pub overflow_add-result : goal.overflow_add-result
overflow_add-result c =
    let found = c.sums_before-place.ensures in
    let time = time_found c.args.period c.args.steps.now c.args.sums.now c.requires.speeds.speeds c.requires.speeds.sums_are c.args.sum c.sums_before-place.result c.div_ceil.result c.requires.sum.from_one c.requires.sum.to_whole found.inside found.before found.after c.div_ceil.ensures in
    omega (arith, time.1, c.requires.speeds.speeds.period_to)

pub returns : goal.returns
returns c =
    let found = c.sums_before-place.ensures in
    let time = time_found c.args.period c.args.steps.now c.args.sums.now c.requires.speeds.speeds c.requires.speeds.sums_are c.args.sum c.sums_before-place.result c.div_ceil.result c.requires.sum.from_one c.requires.sum.to_whole found.inside found.before found.after c.div_ceil.ensures in
    record { is = time.0; within = time.1 }
