use Rattle.std.proofs.Common.{arith}
use Rattle.ea_engine.proofs.TurnLemmas.{IsTurn-pushed}
use Rattle.ea_engine.proofs.worker.turn_steps.take_turn.Goals as goal

pub visit_next-end-requires-clause-may : goal.visit_next-end-requires-clause-may
visit_next-end-requires-clause-may g c κs outlives = c.requires.may

pub push_fresh-requires-clause-may : goal.push_fresh-requires-clause-may
push_fresh-requires-clause-may g c κs outlives = record {
  of_pool = c.visit_next-end.ensures.means.seats.pool;
  fresh_known = c.visit_next-end.ensures.means.fresh_known;
}

pub returns : goal.returns
returns g c = record {
  means =
      let held = c.visit_next-end.ensures.means in
      record {
        seats = record { labels = held.seats.labels; pool = c.push_fresh.ensures.of_pool };
        taken_known = held.taken_known;
        fresh_known = c.push_fresh.ensures.left_known;
      };
  turn =
      let due = c.is_due.ensures c.if-not-is_due.false in
      let turn = c.visit_next-end.ensures.turn in
      record {
        turn = IsTurn-pushed _ _ _ _ _ _ _ _ _ _ _ _ _ _ turn.turn (c.push_fresh.ensures.progress _) due.0 due.1 c.push_fresh.ensures.few;
        pushes = omega (arith, turn.pushes);
      };
}

pub returns-then-not-is_due : goal.returns-then-not-is_due
returns-then-not-is_due g c = record {
  means = c.visit_next-end.ensures.means;
  turn =
      let turn = c.visit_next-end.ensures.turn in
      record { turn = turn.turn; pushes = omega (arith, turn.pushes) };
}
