use Rattle.ea_travel_times.proofs.Latest.{last_turn_before}
use Rattle.ea_travel_times.proofs.latest_departures.last_time.Goals as goal

pub returns-else-left-back : goal.returns-else-left-back
returns-else-left-back c = last_turn_before c.args.period c.args.offset c.args.left c.if-offset-rest.false c.requires c.if-left-back.false
