use Rattle.std.proofs.Common.{arith}
use Rattle.ea_travel_times.proofs.travel_times.TravelTimes.latest_by_halves.Goals as goal

pub returns : goal.returns
returns g c = record {
  in_time = c.loop-high.invariant.in_time;
  latest = λ later is. let below = c.loop-high.invariant.late later is in omega (arith, below, c.loop-high-test.false, c.loop-high.invariant.apart);
}
