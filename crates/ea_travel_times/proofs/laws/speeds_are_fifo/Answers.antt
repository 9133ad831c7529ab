use Rattle.ea_travel_times.specs.TimetableLaws.{speeds_are_fifo}
use Rattle.ea_travel_times.proofs.laws.speeds_are_fifo.Goals as goal

pub returns : goal.returns
returns c = speeds_are_fifo
