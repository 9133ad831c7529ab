use Rattle.std.proofs.Common.{arith, ap, sym, subst, ◌+◌, ◌-◌, ◌*◌, ◌/◌, ◌%◌, ◌<◌, ℕ, ◌∙◌}
use Rattle.std.proofs.Math.Nat.{div-add-mod, mod-le}
use Rattle.std.proofs.lemmas.Nat.{mod_below}
use Rattle.ea_travel_times.specs.Speeds.{IsTimeOfSums, sum_to}
use Rattle.ea_travel_times.proofs.Periods.{arrival_of, in_one_step, step_moves}
use Rattle.ea_travel_times.proofs.steps.arrive_by_speeds.Goals as goal

pub div_ceil-time-requires : goal.div_ceil-time-requires
div_ceil-time-requires c =
    let below = mod_below c.args.departure c.args.period c.requires.speeds.speeds.period_from in
    let end = c.sum_until-2.ensures.is ∙ ap (sum_to c.args.steps.now) c.end_of-end.ensures in
    step_moves c.args.period c.args.steps.now c.requires.speeds.speeds c.step_at-place.result (c.args.departure % c.args.period) (1000 * c.args.weight) (c.sum_until.result + 1000 * c.args.weight) c.sum_until-2.result
    c.step_at-place.ensures below (omega (arith, c.if-weight-eq0.false)) (ap (λ n. n + 1000 * c.args.weight) c.sum_until.ensures.is) c.if-sum-sum_until.true end

pub returns-then-sum-sum_until : goal.returns-then-sum-sum_until
returns-then-sum-sum_until c =
    let below = mod_below c.args.departure c.args.period c.requires.speeds.speeds.period_from in
    let end = c.sum_until-2.ensures.is ∙ ap (sum_to c.args.steps.now) c.end_of-end.ensures in
    let parts = div-add-mod c.args.departure c.args.period in
    let some : 0 < c.args.weight = omega (arith, c.if-weight-eq0.false) in
    arrival_of c.args.period c.args.steps.now c.args.weight c.args.departure (c.args.departure / c.args.period) (c.args.departure % c.args.period) c.min.result c.requires.range.within (sym parts) below some
    (in_one_step c.args.period c.args.steps.now c.requires.speeds.speeds c.args.weight c.args.departure c.step_at-place.result (c.args.departure % c.args.period) c.div_ceil-time.result (c.sum_until.result + 1000 * c.args.weight) c.sum_until-2.result c.min.result
    (mod-le c.args.departure c.args.period) c.step_at-place.ensures below some (ap (λ n. n + 1000 * c.args.weight) c.sum_until.ensures.is) c.if-sum-sum_until.true end c.div_ceil-time.ensures c.min.ensures)

pub returns-else-sum-sum_until : goal.returns-else-sum-sum_until
returns-else-sum-sum_until c =
    let below = mod_below c.args.departure c.args.period c.requires.speeds.speeds.period_from in
    let parts = div-add-mod c.args.departure c.args.period in
    let some : 0 < c.args.weight = omega (arith, c.if-weight-eq0.false) in
    arrival_of c.args.period c.args.steps.now c.args.weight c.args.departure (c.args.departure / c.args.period) (c.args.departure % c.args.period) c.arrive_later.result c.requires.range.within (sym parts) below some
    (subst (λ (sum : ℕ). IsTimeOfSums c.args.period c.args.steps.now (c.args.departure - c.args.departure % c.args.period) (sum + 1000 * c.args.weight) c.arrive_later.result) c.sum_until.ensures.is c.arrive_later.ensures)
