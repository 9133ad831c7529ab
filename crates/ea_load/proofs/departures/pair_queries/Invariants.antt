use Rattle.std.proofs.Common.{◌≡◌, take}
use Rattle.ea_load.specs.Starts.{pair_problems, plan_of}
use Rattle.ea_load.proofs.departures.pair_queries.Given as goal

abbrev pub invariant-loop-i : goal.invariant-loop-i
invariant-loop-i l = l.queries.items ≡ pair_problems (plan_of l.schedule) 0 (take l.i l.pairs)
