use Rattle.ea_travel_times.specs.TimetableLaws.{trips_are_fifo}
use Rattle.ea_travel_times.proofs.laws.trips_are_fifo.Goals as goal

pub returns : goal.returns
returns c = trips_are_fifo
