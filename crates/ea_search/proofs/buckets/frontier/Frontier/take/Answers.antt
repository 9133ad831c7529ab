use Rattle.std.proofs.Common.{subst}
use Rattle.ea_search.specs.Frontiers.{Frontage, KeepsWaiting}
use Rattle.ea_search.specs.Underway.{bound_of}
use Rattle.ea_search.proofs.Fronts.{then_lowest}
use Rattle.ea_search.proofs.buckets.frontier.Frontier.take.Goals as goal

pub returns : goal.returns
returns g c =
    let label = bound_of (g.L.Table.labels c.args.table.now) in
    let P : Frontage → Type 0 = λ f. KeepsWaiting label f c.refill.new.self in
    then_lowest label _ _ _ c.pop_lowest.result (subst P c.in_default.ensures.0 c.refill.ensures) c.pop_lowest.ensures
