use Rattle.std.proofs.Common.{subst}
use Rattle.std.specs.Prelude.{Contains, IfOk}
use Rattle.ea_asked.specs.Asked.{HasFoundAsked}
use Rattle.ea_load.specs.Posed.{times_on}
use Rattle.ea_road.specs.Roads.{Roads}
use Rattle.ea_travel_times.specs.declared.road_times.RoadTimes.{RoadTimes}
use Rattle.ea_batch.proofs.Showing.{found_chosen}
use Rattle.ea_batch.proofs.one_search.search_asked.Goals as goal

pub returns : goal.returns
returns c =
    let road = c.args.road.now in
    let query = c.args.query.now in
    let asked = c.args.asked.now in
    let walks = c.in_ok-search.search.walks in
    let there = subst (λ (r : Roads). IfOk c.find.result (HasFoundAsked r (times_on (record { network = road.network; times = c.times.result.now })) query (Contains asked) walks)) c.requires.network c.find.ensures in
    let it = subst (λ (t : RoadTimes). IfOk c.find.result (HasFoundAsked road.network (times_on (record { network = road.network; times = t })) query (Contains asked) walks)) c.times.ensures there in
    found_chosen road asked query c.requires.all walks c.args.walks c.in_ok-search.ensures.1 c.find.result it
