use Rattle.std.proofs.Common.{sym, subst}
use Rattle.std.specs.Prelude.{Option}
use Rattle.ea_base.specs.declared.timetable.RawKind.{RawKind}
use Rattle.ea_travel_times.specs.Departures.{IsLatest}
use Rattle.ea_travel_times.specs.StepLists.{steps_in}
use Rattle.ea_travel_times.specs.Timetables.{ClassAnswers}
use Rattle.ea_travel_times.specs.declared.step_table.StepTable.{StepTable}
use Rattle.ea_travel_times.proofs.latest_steps.latest_by_steps.Goals as goal

pub returns-in-Speeds : goal.returns-in-Speeds
returns-in-Speeds c =
    let by_kind = subst (λ (k : RawKind). IsLatest (λ class. ClassAnswers c.in-Some.table.list.items k) 0 c.args.weight c.args.arrival c.by_speeds.result) (sym c.in-Speeds.is) c.by_speeds.ensures in
    subst (λ (steps : Option StepTable). IsLatest (λ class. ClassAnswers (steps_in steps) c.args.kind) 0 c.args.weight c.args.arrival c.by_speeds.result) (sym c.in-Some.is) by_kind

pub returns-in-Trips : goal.returns-in-Trips
returns-in-Trips c =
    let by_kind = subst (λ (k : RawKind). IsLatest (λ class. ClassAnswers c.in-Some.table.list.items k) 0 c.args.weight c.args.arrival c.by_trips.result) (sym c.in-Trips.is) c.by_trips.ensures in
    subst (λ (steps : Option StepTable). IsLatest (λ class. ClassAnswers (steps_in steps) c.args.kind) 0 c.args.weight c.args.arrival c.by_trips.result) (sym c.in-Some.is) by_kind

pub returns-in-Points : goal.returns-in-Points
returns-in-Points c =
    let by_kind = subst (λ (k : RawKind). IsLatest (λ class. ClassAnswers c.in-Some.table.list.items k) 0 c.args.weight c.args.arrival c.by_points.result) (sym c.in-Points.is) c.by_points.ensures in
    subst (λ (steps : Option StepTable). IsLatest (λ class. ClassAnswers (steps_in steps) c.args.kind) 0 c.args.weight c.args.arrival c.by_points.result) (sym c.in-Some.is) by_kind
