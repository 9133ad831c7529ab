use Rattle.std.proofs.Common.{◌≡◌, ◌≤◌, ◌∙◌, ap, length, subst, sym}
use Rattle.std.specs.Arc.{arc_value}
use Rattle.ea_layout.specs.Laid.{IsPreparedLaid}
use Rattle.ea_road.specs.Roads.{Roads, top_class}
use Rattle.ea_travel_times.specs.Directed.{IsDirected}
use Rattle.ea_travel_times.specs.StepLists.{steps_in}
use Rattle.ea_travel_times.specs.TimetableLists.{TimetablesAnswer}
use Rattle.ea_travel_times.specs.TurnedTimes.{IsTurned}
use Rattle.ea_travel_times.specs.declared.road_times.RoadTimes.{RoadTimes}
use Rattle.ea_capi.specs.declared.handle.terrain.Terrain.{Terrain}
use Rattle.ea_capi.proofs.Stopping.{turned_top}
use Rattle.ea_capi.proofs.road.turned.turned_layout.Goals as goal

pub prepare_like-requires : goal.prepare_like-requires
prepare_like-requires c =
    let turned = c.args.turned.now in
    let road = (arc_value turned.terrain).road in
    let same : c.of-times.result.times.now ≡ road.times = c.of-times.ensures ∙ ap (λ (it : Terrain). it.road.times) c.deref-2.ensures in
    let top : top_class turned.network.arcs ≡ top_class road.network.arcs = ap (λ (r : Roads). top_class r.arcs) turned.turned ∙ turned_top road.network.arcs in
    subst (λ (ts : RoadTimes). top_class turned.network.arcs ≤ length ts.tables.list.items) (sym same) (subst (λ n. n ≤ length road.times.tables.list.items) (sym top) (arc_value turned.terrain).classed)

pub returns-in-Ok-clause-laid : goal.returns-in-Ok-clause-laid
returns-in-Ok-clause-laid c =
    let turned = c.args.turned.now in
    let same : c.of-times.result.times.now ≡ (arc_value turned.terrain).road.times = c.of-times.ensures ∙ ap (λ (it : Terrain). it.road.times) c.deref-2.ensures in
    record {
      laid_out = c.in-Ok.ensures.laid_out;
      prepared = subst (λ (ts : RoadTimes). IsPreparedLaid (IsTurned (IsDirected ts.direction (TimetablesAnswer ts.tables.list.items (steps_in ts.tables.steps)))) c.in-Ok.layout) same c.in-Ok.ensures.prepared;
    }
