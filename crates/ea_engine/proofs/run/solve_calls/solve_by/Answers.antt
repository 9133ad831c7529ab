use Rattle.std.proofs.Common.{subst, IfOk}
use Rattle.ea_search.specs.Answers.{IsAnswer}
use Rattle.ea_engine.specs.Runs.{IsRunOf, ran_of}
use Rattle.ea_engine.proofs.run.solve_calls.solve_by.Given as given
use Rattle.ea_engine.proofs.run.solve_calls.solve_by.Goals as goal

pub returns-clause-answer : goal.returns-clause-answer
returns-clause-answer g c =
    subst (λ closure. IfOk c.solve.result (λ solved. IsAnswer c.args.network.now (λ class weight departure arrival. ∥ g.C.ArrivalFunction.answers closure class weight departure arrival ∥₁) c.args.query.now solved.answer)) c.new-profiles.ensures.closure c.solve.ensures.answer

pub returns-clause-run : goal.returns-clause-run
returns-clause-run g c =
    subst (λ closure. IfOk c.solve.result (λ solved. IsRunOf g.R.Rng.stream (given.F-step g) c.args.network.now (λ class weight departure arrival. ∥ g.C.ArrivalFunction.answers closure class weight departure arrival ∥₁) c.args.query.now c.args.crew (ran_of solved))) c.new-profiles.ensures.closure c.solve.ensures.run
