use Rattle.std.proofs.Common.{arith, sym, subst, ◌-◌, ◌<◌, length}
use Rattle.ea_travel_times.specs.StepLists.{steps_in}
use Rattle.ea_travel_times.specs.Timetables.{IsClass}
use Rattle.ea_travel_times.proofs.Classes.{class_at}
use Rattle.ea_travel_times.proofs.timetables.Timetables.kind_at.Goals as goal

pub returns-clause-fits : goal.returns-clause-fits
returns-clause-fits c =
    let times = c.args.self.now in
    let below : c.args.class - 1 < length times.list.items = omega (arith, c.requires.to_last, c.requires.from_one) in
    subst (IsClass (steps_in times.steps)) (sym c.index.ensures) (class_at times.list.items (steps_in times.steps) (c.args.class - 1) _ times.fit below)
