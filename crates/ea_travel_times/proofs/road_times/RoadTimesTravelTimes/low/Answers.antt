use Rattle.std.proofs.Common.{subst, sym}
use Rattle.ea_base.specs.declared.direction.Direction.{Direction}
use Rattle.ea_travel_times.specs.Lows.{IsLowerBound}
use Rattle.ea_travel_times.specs.Directed.{IsDirected}
use Rattle.ea_travel_times.specs.StepLists.{steps_in}
use Rattle.ea_travel_times.specs.TimetableLists.{TimetablesAnswer}
use Rattle.ea_travel_times.proofs.road_times.RoadTimesTravelTimes.low.Goals as goal

pub returns-in-Forward : goal.returns-in-Forward
returns-in-Forward c =
    let tables = c.args.self.now.tables in
    subst (λ (d : Direction). IsLowerBound (IsDirected d (TimetablesAnswer tables.list.items (steps_in tables.steps))) c.args.class c.args.weight c.low.result) (sym c.in-Forward.is) c.low.ensures
