use Rattle.ea_capi.specs.Calls.{IsDone, IsPair, from_to}
use Rattle.ea_capi.specs.States.{road_of}
use Rattle.ea_capi.proofs.Querying.{queried}
use Rattle.ea_capi.proofs.session.queries.pair_of.Goals as goal

pub returns-in-Search : goal.returns-in-Search
returns-in-Search c =
    let it = c.find_pair-session in
    queried (λ session. IsPair (road_of session) (record { node = c.args.source; departure = c.args.departure }) c.args.target) IsDone (from_to c.args.source c.args.departure c.args.target)
    c.args.content c.in-Search.session it.result.0 it.result.1 c.in-Search.is it.ensures.found it.ensures.refused it.ensures.pair
