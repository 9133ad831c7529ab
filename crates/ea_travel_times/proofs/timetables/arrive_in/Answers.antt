use Rattle.std.proofs.Common.{arith, ◌-◌, ◌<◌, length}
use Rattle.ea_travel_times.specs.StepLists.{steps_in}
use Rattle.ea_travel_times.proofs.Classes.{class_at}
use Rattle.ea_travel_times.proofs.timetables.arrive_in.Goals as goal

pub arrive_of-requires-clause-class : goal.arrive_of-requires-clause-class
arrive_of-requires-clause-class c =
    let below : c.args.class - 1 < length c.args.list.now = omega (arith, c.requires.kind.to_last, c.requires.kind.from_one) in
    class_at c.args.list.now (steps_in c.args.steps.now) (c.args.class - 1) _ c.requires.fit below
