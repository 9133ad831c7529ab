use Rattle.std.proofs.Common.{◌∙◌, ap, arith, length, subst}
use Rattle.ea_engine.specs.Rows.{IsSeatedRow}
use Rattle.ea_engine.proofs.Settling.{gathered_same}
use Rattle.ea_engine.proofs.BoundLemmas.{IsReachedBy-more}
use Rattle.ea_engine.proofs.run.workers.seat_workers.Goals as goal

pub split_seats-requires-clause-may : goal.split_seats-requires-clause-may
split_seats-requires-clause-may g c κs within = record {
  fit = c.requires.shares.fit;
  labels = omega (arith, c.requires.shares.labels, c.requires.may.few_workers);
  pool = omega (arith, c.requires.shares.pool, c.requires.may.few_workers);
  others_empty = record { none = c.requires.may.room.others_empty.none; room = omega (arith, c.requires.may.room.others_empty.room) };
}

pub put_first-requires-clause-room : goal.put_first-requires-clause-room
put_first-requires-clause-room g c κs within = omega (arith, c.split_seats.ensures.len, c.split_seats.ensures.capacity, c.requires.may.room.others_empty.room, c.requires.may.some_worker)

pub seat_row-requires-clause-may : goal.seat_row-requires-clause-may
seat_row-requires-clause-may g c κs within = record {
  row_empty = c.requires.may.room.row_empty;
  seats_len = omega (arith, ap length c.put_first.ensures.first, c.put_first.new.seats.ok, c.split_seats.ensures.len, c.split_seats.new.others.ok, c.requires.may.some_worker);
  tracers_len = c.requires.may.tracers_len;
}

pub returns : goal.returns
returns g c = record {
  len = c.seat_row.ensures.len;
  seated = λ seeded waiting began.
      let e = c.split_seats.ensures in
      let gave = e.gave in
      record {
        main = c.split_seats.new.seats;
        fresh = c.split_seats.new.others.items;
        seated = subst (λ seats. IsSeatedRow seats c.args.rngs.items c.args.tracers.items c.seat_row.new.row.items) c.put_first.ensures.first c.seat_row.ensures.seated;
        length_is = omega (arith, c.seat_row.ensures.len, e.len);
        seeds = record {
          fit = e.fit;
          gathered = gathered_same _ _ _ _ _ _ gave.bounds gave.lowerings gave.pushed gave.popped began.gathered;
          offered = λ source among. IsReachedBy-more _ _ (λ b inside. rw gave.bounds inside) source.node source.departure (began.offered source among);
          pushed = ap length gave.pushed ∙ began.pushed;
          popped = gave.popped ∙ began.popped;
        };
        all_fresh = e.fresh;
        label_shares = omega (arith, gave.label_shares, c.requires.shares.labels, e.len);
        pool_shares = omega (arith, gave.pool_shares, c.requires.shares.pool, e.len);
      };
}
