use Rattle.ea_travel_times.specs.TimetableLaws.{points_are_fifo}
use Rattle.ea_travel_times.proofs.laws.points_are_fifo.Goals as goal

pub returns : goal.returns
returns c = points_are_fifo
