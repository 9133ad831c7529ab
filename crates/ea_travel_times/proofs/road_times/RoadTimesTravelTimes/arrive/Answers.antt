use Rattle.std.proofs.Common.{subst, sym}
use Rattle.ea_base.specs.declared.direction.Direction.{Direction}
use Rattle.ea_travel_times.specs.Directed.{IsDirected}
use Rattle.ea_travel_times.specs.StepLists.{steps_in}
use Rattle.ea_travel_times.specs.TimetableLists.{TimetablesAnswer}
use Rattle.ea_travel_times.specs.TurnedTimes.{IsTurned}
use Rattle.ea_travel_times.specs.declared.timetables.Timetables.{Timetables}
use Rattle.ea_travel_times.proofs.road_times.RoadTimesTravelTimes.arrive.Goals as goal

pub returns-in-Turned : goal.returns-in-Turned
returns-in-Turned c =
    let tables = c.args.self.now.tables in
    subst (λ (d : Direction). IsDirected d (TimetablesAnswer tables.list.items (steps_in tables.steps)) c.args.class c.args.weight c.args.departure c.arrive-in-Turned.result) (sym c.in-Turned.is)
    (subst (λ (t : Timetables). IsTurned (TimetablesAnswer t.list.items (steps_in t.steps)) c.args.class c.args.weight c.args.departure c.arrive-in-Turned.result) c.of.ensures c.arrive-in-Turned.ensures)
