use Rattle.std.proofs.Common.{sym, subst}
use Rattle.std.specs.Prelude.{Option}
use Rattle.ea_travel_times.specs.StepLists.{steps_in}
use Rattle.ea_travel_times.specs.Timetables.{ClassAnswers}
use Rattle.ea_travel_times.specs.declared.step_table.StepTable.{StepTable}
use Rattle.ea_travel_times.proofs.Classes.{trips_answer}
use Rattle.ea_travel_times.proofs.timetables.arrive_by_steps.Goals as goal

pub returns-in-Some-steps : goal.returns-in-Some-steps
returns-in-Some-steps c =
    let answer = trips_answer c.in-Some-steps.table.list.items c.args.kind c.in-Trips.period c.in-Trips.first c.in-Trips.count c.args.weight c.args.departure c.by_trips.result c.in-Trips.is c.by_trips.ensures in
    subst (λ (steps : Option StepTable). ClassAnswers (steps_in steps) c.args.kind c.args.weight c.args.departure c.by_trips.result) (sym c.in-Some-steps.is) answer
