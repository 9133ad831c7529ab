use Rattle.std.proofs.Common.{◌≡◌, take}
use Rattle.ea_travel_times.proofs.timetables.Timetables.of.Given as goal

abbrev pub invariant-loop-kind : goal.invariant-loop-kind
invariant-loop-kind l = l.list.items ≡ take l.kind-index l.kinds
