use Rattle.std.proofs.Common.{◌≡◌, ◌-◌, ◌<◌, length, slice_index}
use Rattle.std.specs.Prelude.{slice_index_or}
use Rattle.ea_travel_times.specs.Speeds.{AreFirstSums}
use Rattle.ea_travel_times.proofs.steps.sums_of.Given as goal

abbrev pub invariant-loop-step : goal.invariant-loop-step
invariant-loop-step l = record {
  count : length l.sums.items ≡ l.step-index;
  sums : AreFirstSums l.steps l.sums.items;
  sum : 0 < l.step-index → l.sum ≡ slice_index l.sums.items (l.step-index - 1);
  before : 0 < l.step-index → l.before ≡ slice_index_or l.steps (l.step-index - 1) (0, 0);
}
