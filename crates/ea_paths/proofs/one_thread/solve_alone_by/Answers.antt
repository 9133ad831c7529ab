use Rattle.std.proofs.Common.{subst, IfOk}
use Rattle.ea_search.specs.Answers.{IsAnswer}
use Rattle.ea_paths.proofs.one_thread.solve_alone_by.Goals as goal

pub returns : goal.returns
returns g c =
    subst (λ closure. IfOk c.solve_alone.result (IsAnswer c.args.network.now (λ class weight departure arrival. ∥ g.F.ArrivalFunction.answers closure class weight departure arrival ∥₁) c.args.query.now)) c.new-profiles.ensures.closure c.solve_alone.ensures
