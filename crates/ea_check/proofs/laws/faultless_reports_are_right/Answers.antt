use Rattle.ea_check.proofs.Right.{faultless_right, right_faultless, task_of}
use Rattle.ea_check.proofs.laws.faultless_reports_are_right.Goals as goal

pub returns-clause-right : goal.returns-clause-right
returns-clause-right g c =
    faultless_right c.args.network.now _ (g.T.TravelTimes.classes c.args.times.now) c.args.query.now.sources (task_of c.args.network.now (g.T.TravelTimes.classes c.args.times.now) c.args.query.now c.keeps_limits.ensures c.requires.problem) (g.met.T.TravelTimes.fifo c.args.times.now)

pub returns-clause-faultless : goal.returns-clause-faultless
returns-clause-faultless g c =
    right_faultless c.args.network.now _ (g.T.TravelTimes.classes c.args.times.now) c.args.query.now.sources (task_of c.args.network.now (g.T.TravelTimes.classes c.args.times.now) c.args.query.now c.keeps_limits.ensures c.requires.problem) (g.met.T.TravelTimes.fifo c.args.times.now)
