use Rattle.ea_capi.specs.Calls.{IsDone, IsPair, from_to}
use Rattle.ea_capi.specs.States.{road_of}
use Rattle.ea_capi.proofs.Querying.{carried}
use Rattle.ea_capi.proofs.session.queries.earliest_search_pair.Goals as goal

pub returns : goal.returns
returns c =
    carried (λ session. IsPair (road_of session) (record { node = c.args.source; departure = c.args.departure }) c.args.target) IsDone (from_to c.args.source c.args.departure c.args.target)
    c.args.search.now.value c.fill.new.self.value c.in-Some.content c.pair_of-content.result.0 c.pair_of-content.result.1 c.in-Some.ensures.old c.fill.ensures c.pair_of-content.ensures
