use Rattle.std.proofs.Common.{ℕ, ◌<◌, ◌≡◌}
use Rattle.std.specs.Prelude.{Some, slice_get}
use Rattle.ea_base.specs.declared.timetable.RawKind.{RawKind}
use Rattle.ea_travel_times.specs.Timetables.{IsClass}
use Rattle.ea_travel_times.proofs.ranges.all_fit.Given as goal

abbrev pub invariant-loop-kind : goal.invariant-loop-kind
invariant-loop-kind l = (place : ℕ) (kind : RawKind) → place < l.kind-index → slice_get l.kinds place ≡ Some kind → IsClass l.steps kind
