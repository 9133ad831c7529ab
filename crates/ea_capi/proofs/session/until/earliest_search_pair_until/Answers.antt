use Rattle.std.proofs.Common.{[], ◌∷◌}
use Rattle.std.specs.Prelude.{Some}
use Rattle.ea_road.specs.declared.target.Target.{Target}
use Rattle.ea_capi.specs.Calls.{IsDone}
use Rattle.ea_capi.specs.LatestCalls.{IsGoodPair}
use Rattle.ea_capi.proofs.QueryingUntil.{carried}
use Rattle.ea_capi.proofs.session.until.earliest_search_pair_until.Goals as goal

pub returns : goal.returns
returns c =
    let target : Target = record { node = c.args.target; time = c.args.time } in
    carried (IsGoodPair c.args.source target) IsDone (target ∷ []) (Some c.args.source)
    c.args.search.now.value c.fill.new.self.value c.in-Some.content c.pair_until_of-content.result.0 c.pair_until_of-content.result.1 c.in-Some.ensures.old c.fill.ensures c.pair_until_of-content.ensures
