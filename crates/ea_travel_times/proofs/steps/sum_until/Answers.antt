use Rattle.std.proofs.Common.{arith}
use Rattle.ea_travel_times.proofs.Speeding.{end_small, sum_by_step, sum_small}
use Rattle.ea_travel_times.proofs.steps.sum_until.Goals as goal

pub overflow_add-result : goal.overflow_add-result
overflow_add-result c =
    let sum = c.requires.speeds.sums_are.each c.args.place c.requires.place.found in
    let is = sum_by_step c.args.period c.args.steps.now c.requires.speeds.speeds c.args.place c.args.time c.requires.place.found c.requires.place.not_before c.requires.place.not_after in
    let small = sum_small c.args.period c.args.steps.now c.requires.speeds.speeds c.args.time in
    let end = end_small c.args.period c.args.steps.now c.requires.speeds.speeds c.args.place in
    omega (arith, sum, is, small, end, c.requires.place.not_after, c.requires.speeds.speeds.period_to)

pub returns : goal.returns
returns c =
    let sum = c.requires.speeds.sums_are.each c.args.place c.requires.place.found in
    let is = sum_by_step c.args.period c.args.steps.now c.requires.speeds.speeds c.args.place c.args.time c.requires.place.found c.requires.place.not_before c.requires.place.not_after in
    let small = sum_small c.args.period c.args.steps.now c.requires.speeds.speeds c.args.time in
    record { is = omega (arith, sum, is); small = omega (arith, sum, is, small) }
