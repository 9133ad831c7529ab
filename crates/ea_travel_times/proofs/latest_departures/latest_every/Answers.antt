use Rattle.ea_travel_times.proofs.Latest.{every_latest, offset_below}
use Rattle.ea_travel_times.proofs.latest_departures.latest_every.Goals as goal

pub returns : goal.returns
returns c = every_latest c.args.period c.args.offset c.args.weight c.args.arrival c.last_time.result (offset_below c.args.period c.args.offset c.requires.kind) c.if-arrival-weight.false c.requires.arrival c.last_time.ensures
