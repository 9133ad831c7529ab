use Rattle.std.proofs.Common.{[], ◌∷◌}
use Rattle.std.specs.Prelude.{Some}
use Rattle.ea_capi.specs.Calls.{IsDone}
use Rattle.ea_capi.specs.LatestCalls.{IsGoodPair}
use Rattle.ea_capi.proofs.QueryingUntil.{queried}
use Rattle.ea_capi.proofs.session.until.pair_until_of.Goals as goal

pub returns-in-Latest : goal.returns-in-Latest
returns-in-Latest c =
    let it = c.find_pair_until-search in
    queried (IsGoodPair c.args.source c.args.target) IsDone (c.args.target ∷ []) (Some c.args.source)
    c.args.content c.in-Latest.search it.result.0 it.result.1 c.in-Latest.is it.ensures.found it.ensures.refused it.ensures.pair
