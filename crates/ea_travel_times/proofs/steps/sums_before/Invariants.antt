use Rattle.std.proofs.Common.{◌-◌, ◌≤◌, ◌<◌, length, slice_index}
use Rattle.ea_travel_times.proofs.steps.sums_before.Given as goal

abbrev pub invariant-loop-low : goal.invariant-loop-low
invariant-loop-low l = record {
  order : l.low ≤ l.high;
  inside : l.high ≤ length l.sums;
  before : 0 < l.low → slice_index l.sums (l.low - 1) < l.sum;
  after : l.high < length l.sums → l.sum ≤ slice_index l.sums l.high;
}

abbrev pub decreases-loop-low : goal.decreases-loop-low
decreases-loop-low l = l.high - l.low
