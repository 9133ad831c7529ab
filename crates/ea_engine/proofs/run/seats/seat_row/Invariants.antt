use Rattle.std.proofs.Common.{◌≡◌, ◌≤◌, ◌+◌, List, ◌++◌, length}
use Rattle.std.specs.Vec.{vec_capacity}
use Rattle.std.specs.Vec.Iter.{into_iter_items}
use Rattle.ea_engine.specs.declared.worker.means.Seats.{Seats}
use Rattle.ea_engine.specs.Rows.{IsSeatedRow}
use Rattle.ea_engine.proofs.run.seats.seat_row.Given as goal

abbrev pub invariant-loop-rng : goal.invariant-loop-rng
invariant-loop-rng g l = record {
  can_next : (goal.iterator-loop-rng g).can_next l.rng-iterator;
  is_finite : (goal.iterator-loop-rng g).is_finite l.rng-iterator;
  ss : List (Seats g.row.K.Denot g.row.E.Denot);
  rs : List g.row.R.Denot;
  ts : List g.row.F.Denot;
  seats_are : l.fn.seats.items ≡ ss ++ into_iter_items l.seats;
  rngs_are : l.fn.rngs.items ≡ rs ++ into_iter_items l.rng-iterator;
  tracers_are : l.fn.tracers.items ≡ ts ++ into_iter_items l.tracers;
  ss_len : length ss ≡ length l.row.items;
  rs_len : length rs ≡ length l.row.items;
  ts_len : length ts ≡ length l.row.items;
  seated : IsSeatedRow ss rs ts l.row.items;
  seats_left : length (into_iter_items l.seats) ≡ length (into_iter_items l.rng-iterator);
  tracers_left : length (into_iter_items l.tracers) ≡ length (into_iter_items l.rng-iterator);
  room : length l.row.items + length (into_iter_items l.rng-iterator) ≤ vec_capacity l.row;
}
