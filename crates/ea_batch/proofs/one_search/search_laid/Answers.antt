use Rattle.std.proofs.Common.{rules, ◌≡◌, true, false}
use Rattle.ea_batch.proofs.Laying.{can_find, found_arrivals, found_walks}
use Rattle.ea_batch.proofs.one_search.search_laid.Goals as goal

pub find_walks-requires-clause-can : goal.find_walks-requires-clause-can
find_walks-requires-clause-can c =
    can_find c.args.road.now c.args.layout.now c.args.query.now c.times.result.now c.times.ensures c.keeps_limits.ensures c.requires.layout c.in_ok-search.search c.requires.may.problem c.in_ok-search.ensures.0

pub find_arrivals-requires : goal.find_arrivals-requires
find_arrivals-requires c =
    can_find c.args.road.now c.args.layout.now c.args.query.now c.times-else-walks.result.now c.times-else-walks.ensures c.keeps_limits.ensures c.requires.layout c.in_ok-search.search c.requires.may.problem c.in_ok-search.ensures.0

pub returns-then-walks : goal.returns-then-walks
returns-then-walks c =
    let on : c.args.walks ≡ true = search rules in
    found_walks c.args.road.now c.args.layout.now c.args.query.now c.times.result.now c.times.ensures c.keeps_limits.ensures c.requires.layout c.args.walks on c.in_ok-search.search.nodes c.in_ok-search.ensures.0 c.find_walks.result c.find_walks.ensures.answer c.find_walks.ensures.room

pub returns-else-walks : goal.returns-else-walks
returns-else-walks c =
    let off : c.args.walks ≡ false = search rules in
    found_arrivals c.args.road.now c.args.layout.now c.args.query.now c.times-else-walks.result.now c.times-else-walks.ensures c.keeps_limits.ensures c.requires.layout c.args.walks c.in_ok-search.search.walks off c.in_ok-search.ensures.1 c.in_ok-search.search.nodes c.in_ok-search.ensures.0 c.find_arrivals.result c.find_arrivals.ensures.arrivals c.find_arrivals.ensures.room
