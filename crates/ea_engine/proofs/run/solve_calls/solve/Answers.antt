use Rattle.std.proofs.Common.{ap, sym, subst}
use Rattle.ea_engine.specs.Runs.{IsRunOf, ran_of}
use Rattle.ea_engine.proofs.run.solve_calls.solve.Given as given
use Rattle.ea_engine.proofs.run.solve_calls.solve.Goals as goal

pub returns-clause-run : goal.returns-clause-run
returns-clause-run g c =
    subst (λ ran. IsRunOf g.R.Rng.stream (given.F-step g) c.args.network.now (g.T.TravelTimes.answers c.args.times.now) c.args.query.now c.args.crew ran) (sym (ap ran_of c.of.ensures)) c.in_ok-finished.ensures.run
