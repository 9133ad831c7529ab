use Rattle.ea_travel_times.proofs.Latest.{any_class}
use Rattle.ea_travel_times.proofs.timetable.TimetableTravelTimes.latest.Goals as goal

pub returns : goal.returns
returns c = any_class c.args.self.now.kind c.args._class c.args.weight c.args.arrival c.latest_by.result c.latest_by.ensures
