use Rattle.std.proofs.Common.{subst, sym, ℕ}
use Rattle.ea_base.specs.declared.direction.Direction.{Direction}
use Rattle.ea_layout.specs.Laid.{IsPreparedLaid}
use Rattle.ea_travel_times.specs.Directed.{IsDirected}
use Rattle.ea_travel_times.specs.StepLists.{steps_in}
use Rattle.ea_travel_times.specs.TimetableLists.{TimetablesAnswer}
use Rattle.ea_travel_times.specs.TurnedTimes.{IsTurned}
use Rattle.ea_travel_times.specs.declared.timetables.Timetables.{Timetables}
use Rattle.earliest.proofs.preparing.prepared_in.Goals as goal

-- travel times turned round are those of a road whose direction is turned
pub returns-in-Turned : goal.returns-in-Turned
returns-in-Turned c =
    let layout = c.prepared_if_worth-in-Turned.result in
    let made = c.prepared_if_worth-in-Turned.ensures in
    let tables = c.args.times.now.tables in
    let answers : ℕ → ℕ → ℕ → ℕ → Type 0 = TimetablesAnswer tables.list.items (steps_in tables.steps) in
    let turned : IsPreparedLaid (λ class weight departure arrival. IsTurned answers class weight departure arrival) layout =
    subst (λ (t : Timetables). IsPreparedLaid (λ class weight departure arrival. IsTurned (TimetablesAnswer t.list.items (steps_in t.steps)) class weight departure arrival) layout) c.of.ensures made.prepared in
    let prepared = subst (λ (d : Direction). IsPreparedLaid (λ class weight departure arrival. IsDirected d answers class weight departure arrival) layout) (sym c.in-Turned.is) turned in
    record {
      same = made.same;
      laid_out = λ roads laid. record { laid_out = made.laid_out roads laid; prepared = prepared };
    }
