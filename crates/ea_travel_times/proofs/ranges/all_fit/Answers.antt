use Rattle.std.proofs.Common.{arith}
use Rattle.ea_travel_times.proofs.FoundFit.{fit_of_each}
use Rattle.ea_travel_times.proofs.ranges.all_fit.Goals as goal

pub returns : goal.returns
returns c = λ yes_it_is. fit_of_each c.args.kinds.now c.args.steps.now c.loop-kind.kind-index (omega arith) c.loop-kind.invariant
