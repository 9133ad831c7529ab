use Rattle.std.proofs.Common.{◌≡◌, ◌∙◌, ap, subst, sym, true}
use Rattle.std.specs.Arc.{arc_value}
use Rattle.ea_road.specs.Roads.{Roads}
use Rattle.ea_road.specs.Turned.{turned_roads}
use Rattle.ea_search.specs.Answers.{HasArrivals, IsAnswer}
use Rattle.ea_travel_times.specs.TurnedTimes.{IsTurned}
use Rattle.ea_load.specs.declared.road.Road.{Road}
use Rattle.ea_capi.specs.declared.handle.terrain.Terrain.{Terrain}
use Rattle.ea_capi.specs.declared.handle.content.TurnedRoad.{TurnedRoad}
use Rattle.ea_capi.specs.Latest.{AreLatest}
use Rattle.ea_capi.specs.Sessions.{answers_on}
use Rattle.ea_capi.specs.States.{road_behind}
use Rattle.ea_capi.proofs.Timely.{are_latest}
use Rattle.ea_capi.proofs.handle.content.LatestSearch.find.Goals as goal

-- an answer on the turned network of a road, seen as one of a road that is the same
has_on : (it : TurnedRoad) (road : Road) (P : Roads → Road → Type 0) → road ≡ (arc_value it.terrain).road → P it.network (arc_value it.terrain).road → P (turned_roads road.network) road
has_on it road P same holds =
    subst (λ (r : Road). P (turned_roads r.network) r) (sym same) (subst (λ (n : Roads). P n (arc_value it.terrain).road) it.turned holds)

pub returns-clause-answer : goal.returns-clause-answer
returns-clause-answer c =
    let query = c.args.query.now in
    let targets = c.args.targets.now in
    let answer = c.find-search.result.answer in
    let walks = c.args.self.walks in
    let turned = c.args.self.share.turned in
    let road = c.deref.result.now.road in
    let same : road ≡ road_behind c.args.self = ap (λ (it : Terrain). it.road) c.deref.ensures ∙ ap (λ (it : TurnedRoad). (arc_value it.terrain).road) c.turned.ensures in
    let has = has_on turned road (λ n r. HasArrivals n (IsTurned (answers_on r)) query answer) same c.find-search.ensures.arrivals in
    let is = has_on turned road (λ n r. walks ≡ true → IsAnswer n (IsTurned (answers_on r)) query answer) same (λ room. c.find-search.ensures.answer (c.args.self.room ∙ room)) in
    let law = c.latest_departures_are_turned_arrivals.ensures in
    let walk_law = c.canonical_walks_turn_round.ensures in
    let found = are_latest road.network (answers_on road) targets law.time law.none walk_law.turned walk_law.in_time query walks answer c.requires.sources has is in
    subst (λ (r : Road). AreLatest r.network (answers_on r) targets query.target walks answer) same found
