use Rattle.std.proofs.Common.{◌≡◌, ℕ, ◌<◌, ◌≤◌, [], length, get_or}
use Rattle.ea_road.specs.declared.leaving_arc.LeavingArc.{LeavingArc}
use Rattle.ea_road.specs.Roads.{with_tail}
use Rattle.ea_engine.specs.Grounds.{tables_of}
use Rattle.ea_engine.specs.Equipped.{AreMeans}
use Rattle.ea_engine.specs.Seated.{kit_of}
use Rattle.ea_engine.specs.Closed.{IsFollowed}
use Rattle.ea_engine.specs.Worked.{Progress}
use Rattle.ea_engine.proofs.worker.scan.scan_entry.Given as goal

abbrev pub invariant-loop-arc : goal.invariant-loop-arc
invariant-loop-arc g l = record {
  are_means : AreMeans g.K.Known.is_known (tables_of l.ground) l.means l.fresh.items;
  room : length l.fresh.items < l.batch;
  progress : Progress (kit_of g.R.Rng.stream l.fn.means [] l.fn.fresh.items) (kit_of g.R.Rng.stream l.means [] l.fresh.items) [] l.pushes l.lowered;
  spent : (k : ℕ) (default : LeavingArc) → k < l.arc-index
      → IsFollowed g.K.Posed.problem l.means.label_seat.history.bounds l.entry.key (with_tail (get_or l.arcs k default) l.entry.node);
  few : l.lowered ≤ l.arc-index;
  pushes : l.pushes ≤ l.lowered;
  one : l.batch ≡ 1 → l.pushes ≡ l.lowered;
}
