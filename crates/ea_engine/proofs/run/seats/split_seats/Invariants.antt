use Rattle.std.proofs.Common.{◌≡◌, ◌≤◌, length, All}
use Rattle.std.specs.Vec.{vec_capacity}
use Rattle.ea_engine.specs.Ends.{AreFresh}
use Rattle.ea_engine.specs.Seated.{tables, AreSeatsOf}
use Rattle.ea_engine.specs.Splits.{HasGiven}
use Rattle.ea_engine.proofs.run.seats.split_seats.Given as goal

abbrev pub invariant-loop : goal.invariant-loop
invariant-loop g l = record {
  fit : AreSeatsOf (tables l.labels l.pool) l.seats.label_seat l.seats.pool_seat;
  gave : HasGiven l.counter l.fn.seats l.seats;
  len : length l.others.items ≡ l.counter;
  counted : l.counter ≤ l.count;
  capacity : vec_capacity l.others ≡ vec_capacity l.fn.others;
  room : l.count ≤ vec_capacity l.others;
  fresh : All (AreFresh (tables l.labels l.pool)) l.others.items;
}
