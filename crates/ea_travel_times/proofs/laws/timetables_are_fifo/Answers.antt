use Rattle.ea_travel_times.specs.StepLists.{steps_in}
use Rattle.ea_travel_times.specs.TimetableLaws.{timetables_are_fifo}
use Rattle.ea_travel_times.proofs.laws.timetables_are_fifo.Goals as goal

pub returns : goal.returns
returns c = λ classes. timetables_are_fifo c.args.times.now.list.items (steps_in c.args.times.now.steps) classes c.args.times.now.fit
