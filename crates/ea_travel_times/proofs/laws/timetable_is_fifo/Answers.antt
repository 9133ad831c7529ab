use Rattle.ea_travel_times.specs.KindLaws.{kind_is_fifo}
use Rattle.ea_travel_times.proofs.laws.timetable_is_fifo.Goals as goal

pub returns : goal.returns
returns c = λ classes. kind_is_fifo c.args.table.now.kind classes c.args.table.now.in_range
