use Rattle.ea_check.proofs.OneVerdict.{one_verdict}
use Rattle.ea_check.proofs.Right.{task_of}
use Rattle.ea_check.proofs.laws.problems_have_one_verdict.Goals as goal

pub returns : goal.returns
returns g c = λ reported this that formed.
    one_verdict c.args.network.now _ (g.T.TravelTimes.classes c.args.times.now) c.args.query.now.sources reported (task_of c.args.network.now (g.T.TravelTimes.classes c.args.times.now) c.args.query.now c.keeps_limits.ensures c.requires.problem) (g.met.T.TravelTimes.fifo c.args.times.now) formed this that
