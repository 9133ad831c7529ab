use Rattle.std.proofs.Common.{◌≡◌, take}
use Rattle.ea_load.specs.Starts.{plan_of, sources_from}
use Rattle.ea_load.proofs.departures.sources_of.Given as goal

abbrev pub invariant-loop-i : goal.invariant-loop-i
invariant-loop-i l = l.sources.items ≡ sources_from (plan_of l.schedule) 0 (take l.i l.nodes)
