use Rattle.std.proofs.Common.{subst, IfOk}
use Rattle.ea_search.specs.Answers.{HasArrivals}
use Rattle.ea_paths.proofs.one_thread.arrivals_alone_by.Goals as goal

pub returns-clause-arrivals : goal.returns-clause-arrivals
returns-clause-arrivals g c =
    subst (λ closure. IfOk c.arrivals_alone.result (HasArrivals c.args.network.now (λ class weight departure arrival. ∥ g.F.ArrivalFunction.answers closure class weight departure arrival ∥₁) c.args.query.now)) c.new-profiles.ensures.closure c.arrivals_alone.ensures.arrivals
