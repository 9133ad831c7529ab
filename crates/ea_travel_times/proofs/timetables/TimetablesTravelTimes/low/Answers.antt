use Rattle.ea_travel_times.specs.LowLaws.{class_low_bounds}
use Rattle.ea_travel_times.specs.StepLists.{steps_in}
use Rattle.ea_travel_times.proofs.Classes.{class_fits}
use Rattle.ea_travel_times.proofs.timetables.TimetablesTravelTimes.low.Goals as goal

pub returns : goal.returns
returns c =
    let times = c.args.self.now in
    class_low_bounds times.list.items (steps_in times.steps) c.args.class c.args.weight c.low.result (class_fits times.list.items (steps_in times.steps) c.args.class times.fit c.requires.of_class) c.low.ensures
