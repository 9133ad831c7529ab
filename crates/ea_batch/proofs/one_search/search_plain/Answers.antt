use Rattle.std.proofs.Common.{rules, subst, ◌∙◌}
use Rattle.ea_load.specs.Posed.{times_on}
use Rattle.ea_paths.specs.Searches.{HasFound}
use Rattle.ea_road.specs.Roads.{Roads}
use Rattle.ea_travel_times.specs.declared.road_times.RoadTimes.{RoadTimes}
use Rattle.ea_batch.proofs.one_search.search_plain.Goals as goal

pub returns : goal.returns
returns c =
    let road = c.args.road.now in
    let there = subst (λ (r : Roads). HasFound r (times_on (record { network = road.network; times = c.times.result.now })) c.args.query.now c.in_ok-search.search c.find.result) c.requires.network c.find.ensures in
    let it = subst (λ (t : RoadTimes). HasFound road.network (times_on (record { network = road.network; times = t })) c.args.query.now c.in_ok-search.search c.find.result) c.times.ensures there in
    record {
      arrivals = it.arrivals;
      canonical = λ on. it.answer (c.in_ok-search.ensures.1 ∙ on);
      ready = search rules;
    }
