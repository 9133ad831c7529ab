use Rattle.std.proofs.Common.{subst, IfOk}
use Rattle.ea_rank.specs.Courses.{IsRecordOfRun}
use Rattle.ea_rank.proofs.turns.record_run_by.Goals as goal

pub returns : goal.returns
returns g c =
    subst (λ closure. IfOk c.record_run.result (λ recorded. IsRecordOfRun c.args.network.now (λ class weight departure arrival. ∥ g.F.ArrivalFunction.answers closure class weight departure arrival ∥₁) c.args.heaps (g.R.Rng.stream c.args.rng) c.args.query.now.sources recorded.events.items))
    c.new-profiles.ensures.closure c.record_run.ensures
