use Rattle.std.proofs.Common.{arith, ap, ◌≡◌, ◌+◌, ◌-◌}
use Rattle.std.specs.Prelude.{slice_index_or}
use Rattle.ea_travel_times.proofs.Speeding.{one_sum_more, sum_pushed}
use Rattle.ea_travel_times.proofs.steps.sums_of.Goals as goal

pub loop-step-preserved : goal.loop-step-preserved
loop-step-preserved c =
    let kept = c.loop-step.invariant in
    let pushed = sum_pushed c.loop-step.sums.items c.push.new.self.items c.next_sum-sum.result c.loop-step.step-index c.in_ok-push.ensures.items kept.count in
    let back : c.loop-step.step-index ≡ c.loop-step.step-index + 1 - 1 = omega arith in
    record {
      count = pushed.0;
      sums = one_sum_more c.args.steps.now c.loop-step.sums.items c.push.new.self.items c.loop-step.step-index c.loop-step.sum c.next_sum-sum.result c.loop-step.before c.in_ok-push.ensures.items kept.count kept.sums kept.sum kept.before c.next_sum-sum.ensures.anew c.next_sum-sum.ensures.on;
      sum = λ some. pushed.1;
      before = λ some. ap (λ place. slice_index_or c.args.steps.now place (0, 0)) back;
    }
