use Rattle.std.proofs.Common.{ℕ, ◌<◌, ◌≡◌, length}
use Rattle.std.specs.Prelude.{Some, slice_get, slice_index_or}
use Rattle.ea_base.specs.declared.timetable.RawKind.{RawKind}
use Rattle.ea_travel_times.specs.Extremes.{IsExtreme}
use Rattle.ea_travel_times.proofs.least_times.extremes_of.Given as goal

abbrev pub invariant-loop-kind : goal.invariant-loop-kind
invariant-loop-kind l = record {
  count : length l.extremes.items ≡ l.kind-index;
  each : (place : ℕ) (kind : RawKind) → place < l.kind-index → slice_get l.kinds place ≡ Some kind → IsExtreme l.steps kind (slice_index_or l.extremes.items place 0);
}
