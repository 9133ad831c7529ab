use Rattle.ea_travel_times.proofs.Classes.{fit_of_few}
use Rattle.ea_travel_times.proofs.Extremes.{extremes_of_few}
use Rattle.ea_travel_times.proofs.timetables.Timetables.new.Goals as goal

pub invariant_of-result : goal.invariant_of-result
invariant_of-result c = record {
  fit = fit_of_few c.args.kinds.items c.requires;
  extremes = extremes_of_few c.args.kinds.items c.requires;
}
