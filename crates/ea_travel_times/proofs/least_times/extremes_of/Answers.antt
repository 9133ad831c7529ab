use Rattle.std.proofs.Common.{arith}
use Rattle.ea_travel_times.proofs.Classes.{class_at}
use Rattle.ea_travel_times.proofs.Extremes.{extreme_more, extremes_of_each}
use Rattle.ea_travel_times.proofs.least_times.extremes_of.Goals as goal

pub extreme_of-requires : goal.extreme_of-requires
extreme_of-requires c = class_at c.args.kinds.now c.args.steps.now c.loop-kind.kind-index _ c.requires c.loop-kind-test.true

pub loop-kind-preserved : goal.loop-kind-preserved
loop-kind-preserved c = record {
  count = grind (arith, c.in_ok-push.ensures, c.loop-kind.invariant.count);
  each = λ place kind inside at.
      rw c.in_ok-push.ensures.items (extreme_more c.args.kinds.now c.args.steps.now c.loop-kind.extremes.items c.loop-kind.kind-index _ c.extreme_of.result c.loop-kind.invariant.count c.loop-kind.invariant.each c.extreme_of.ensures place kind inside at);
}

pub returns : goal.returns
returns c = extremes_of_each c.args.kinds.now c.args.steps.now c.loop-kind.extremes.items c.loop-kind.kind-index (omega arith) c.loop-kind.invariant.each
