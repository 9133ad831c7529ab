use Rattle.std.proofs.Common.{◌≡◌, ◌+◌, List, ◌++◌, length, All}
use Rattle.std.specs.Vec.Iter.{into_iter_items}
use Rattle.ea_engine.specs.declared.worker.work_loop.WorkerEnd.{WorkerEnd}
use Rattle.ea_engine.specs.Ends.{IsEndPlace}
use Rattle.ea_engine.specs.Grown.{SameRoom}
use Rattle.ea_engine.specs.Rowed.{all_done, AreGathered}
use Rattle.ea_engine.specs.Seated.{tables}
use Rattle.ea_engine.proofs.run.gathering.gather_row.Given as goal

abbrev pub invariant-loop-place : goal.invariant-loop-place
invariant-loop-place g l = record {
  can_next : (goal.iterator-loop-place g).can_next l.place-iterator;
  is_finite : (goal.iterator-loop-place g).is_finite l.place-iterator;
  ends : List (WorkerEnd _ _ _ _);
  gathered : AreGathered g.K.Posed.problem (tables l.labels l.pool) l.fn.seeds.seeded l.fn.seeds.returned ends l.gathering;
  row_is : l.fn.row.items ≡ all_done ends ++ into_iter_items l.place-iterator;
  rest : All (IsEndPlace g.K.Posed.problem (tables l.labels l.pool)) (into_iter_items l.place-iterator);
  walks : l.gathering.todo.walks ≡ l.fn.todo.walks;
  label_shares : l.gathering.seats.label_seat.history.shares + length (into_iter_items l.place-iterator) ≡ 64;
  pool_shares : l.gathering.seats.pool_seat.account.shares + length (into_iter_items l.place-iterator) ≡ 64;
  room : SameRoom l.fn.results l.gathering.results;
}
