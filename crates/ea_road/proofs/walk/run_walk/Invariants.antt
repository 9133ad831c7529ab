use Rattle.std.proofs.Common.{ℕ, ◌≤◌, take}
use Rattle.ea_base.specs.declared.limits.TheConstants.{HORIZON}
use Rattle.ea_road.specs.Arrivals.{Arrives}
use Rattle.ea_road.proofs.walk.run_walk.Given as goal

-- the node and time to which the arcs so far lead
abbrev pub invariant-loop-number : goal.invariant-loop-number
invariant-loop-number g l = record {
  arrives : Arrives l.network (g.T.TravelTimes.answers l.times) l.start l.departure (take {A = ℕ} l.number-index l.walk) l.node l.time;
  within : l.time ≤ HORIZON;
}
