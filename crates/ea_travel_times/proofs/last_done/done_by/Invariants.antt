use Rattle.std.proofs.Common.{◌+◌, ◌-◌, ◌≤◌, ◌<◌, length}
use Rattle.ea_travel_times.specs.LastSteps.{done_at}
use Rattle.ea_travel_times.proofs.last_done.done_by.Given as goal

abbrev pub invariant-loop-low : goal.invariant-loop-low
invariant-loop-low l = record {
  order : l.low ≤ l.high;
  inside : l.high ≤ length l.steps;
  before : 0 < l.low → done_at l.steps (l.low - 1) < l.time + 1;
  after : l.high < length l.steps → l.time + 1 ≤ done_at l.steps l.high;
}

abbrev pub decreases-loop-low : goal.decreases-loop-low
decreases-loop-low l = l.high - l.low
