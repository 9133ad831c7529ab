use Rattle.ea_travel_times.specs.SpeedLaws.{sum_between}
use Rattle.ea_travel_times.proofs.laws.sums_of_speeds_add.Goals as goal

pub returns : goal.returns
returns c = sum_between
