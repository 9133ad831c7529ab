use Rattle.std.proofs.Common.{◌≡◌, ◌∙◌, ap, subst, sym}
use Rattle.std.specs.Arc.{arc_value}
use Rattle.std.specs.Prelude.{IfSome}
use Rattle.ea_load.specs.Posed.{times_on}
use Rattle.ea_paths.specs.Searches.{HasFound}
use Rattle.ea_travel_times.specs.Directed.{IsDirected}
use Rattle.ea_travel_times.specs.StepLists.{steps_in}
use Rattle.ea_travel_times.specs.TimetableLists.{TimetablesAnswer}
use Rattle.ea_travel_times.specs.TurnedTimes.{IsTurned}
use Rattle.ea_travel_times.specs.declared.road_times.RoadTimes.{RoadTimes}
use Rattle.ea_capi.specs.Shared.{IsLaidOn, IsLaidTurned}
use Rattle.ea_capi.specs.declared.handle.content.TurnedRoad.{TurnedRoad}
use Rattle.ea_capi.specs.declared.handle.terrain.Terrain.{Terrain}
use Rattle.ea_capi.proofs.handle.turned_share.TurnedShare.find.Goals as goal

pub find-requires-clause-layout : goal.find-requires-clause-layout
find-requires-clause-layout c =
    let turned = c.turned-turned.result.now in
    let same : c.of-times.result.times.now ≡ (arc_value turned.terrain).road.times = c.of-times.ensures ∙ ap (λ (it : Terrain). it.road.times) c.deref.ensures in
    let fits = subst (λ (t : TurnedRoad). IfSome c.layout.result (λ it. IsLaidTurned t it.now)) (sym c.turned-turned.ensures) c.layout.ensures.fits in
    subst (λ (ts : RoadTimes). IfSome c.layout.result (λ it. IsLaidOn turned.network (IsTurned (IsDirected ts.direction (TimetablesAnswer ts.tables.list.items (steps_in ts.tables.steps)))) it.now)) (sym same) fits

pub returns : goal.returns
returns c =
    let turned = c.turned-turned.result.now in
    let same : c.of-times.result.times.now ≡ (arc_value turned.terrain).road.times = c.of-times.ensures ∙ ap (λ (it : Terrain). it.road.times) c.deref.ensures in
    let found = subst (λ (ts : RoadTimes). HasFound turned.network (IsTurned (IsDirected ts.direction (TimetablesAnswer ts.tables.list.items (steps_in ts.tables.steps)))) c.args.query.now c.args.search c.find.result) same c.find.ensures in
    subst (λ (t : TurnedRoad). HasFound t.network (IsTurned (times_on (arc_value t.terrain).road)) c.args.query.now c.args.search c.find.result) c.turned-turned.ensures found
