use Rattle.std.proofs.Common.{ℕ, ◌+◌, ◌-◌, ◌<◌, ◌≤◌}
use Rattle.ea_travel_times.specs.Departures.{IsInTime}
use Rattle.ea_travel_times.proofs.travel_times.TravelTimes.latest_by_halves.Given as goal

abbrev pub invariant-loop-high : goal.invariant-loop-high
invariant-loop-high g l = record {
  apart : l.low < l.high;
  to : l.high ≤ l.arrival + 1;
  in_time : IsInTime (g.Self.TravelTimes.answers l.self) l.class l.weight l.arrival l.low;
  late : (later : ℕ) → IsInTime (g.Self.TravelTimes.answers l.self) l.class l.weight l.arrival later → later < l.high;
}

abbrev pub decreases-loop-high : goal.decreases-loop-high
decreases-loop-high g l = l.high - l.low
