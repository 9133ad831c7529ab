use Rattle.ea_travel_times.specs.Times.{next_this_turn, next_turn}
use Rattle.ea_travel_times.proofs.Latest.{offset_below}
use Rattle.ea_travel_times.proofs.timetable.next_time.Goals as goal

pub returns-then-rest-offset-clause-next : goal.returns-then-rest-offset-clause-next
returns-then-rest-offset-clause-next c =
    next_this_turn c.args.period c.args.offset c.args.departure (offset_below c.args.period c.args.offset c.requires.kind) c.if-rest-offset.true

pub returns-else-rest-offset-clause-next : goal.returns-else-rest-offset-clause-next
returns-else-rest-offset-clause-next c =
    next_turn c.args.period c.args.offset c.args.departure (offset_below c.args.period c.args.offset c.requires.kind) c.if-rest-offset.false
