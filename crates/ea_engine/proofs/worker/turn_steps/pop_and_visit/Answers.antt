use Rattle.std.proofs.Common.{ap, arith}
use Rattle.ea_engine.specs.Turns.{is_idle}
use Rattle.ea_engine.proofs.HoldLemmas.{known_nothing, known_turned}
use Rattle.ea_engine.proofs.TurnLemmas.{IsTurn-idle, IsTurn-popped, SawAs-visited, took_some}
use Rattle.ea_engine.proofs.worker.turn_steps.pop_and_visit.Goals as goal

pub pop_drawn-requires-clause-may : goal.pop_drawn-requires-clause-may
pop_drawn-requires-clause-may g c κs outlives = record {
  of_pool = c.requires.may.equipped.are_held.seats.pool;
  none = c.requires.may.none;
  some = omega (arith, c.requires.may.equipped.room);
  few = c.requires.may.equipped.batch_few;
}

pub returns-in-Empty : goal.returns-in-Empty
returns-in-Empty g c = record {
  turn = record {
    means =
        let held = c.requires.may.equipped.are_held in
        record {
          seats = record { labels = held.seats.labels; pool = c.in-Empty.ensures.of_pool };
          taken_known = known_nothing g.K.Known.is_known _ c.in-Empty.ensures.popped.1;
          fresh_known = held.fresh_known;
        };
    turn =
        let t = c.idle_turn.ensures in
        let drawn = c.in-Empty.ensures in
        record {
          turn = IsTurn-idle _ _ _ _ _ _ _ _ _ _ _ _ _
              drawn.popped.0 c.requires.may.none drawn.popped.1 c.requires.may.equipped.room drawn.words_are
              t.number_is (ap is_idle t.kind_is) t.shaped t.lowered t.broken t.pops t.pushes
              (λ whole. rw t.kind_is (drawn.nothing whole));
          pushes = omega (arith, t.pushes);
        };
  };
  saw = rw c.idle_turn.ensures.kind_is c.in-Empty.ensures.looked;
}

pub returns-in-Busy : goal.returns-in-Busy
returns-in-Busy g c = record {
  turn = record {
    means =
        let held = c.requires.may.equipped.are_held in
        record {
          seats = record { labels = held.seats.labels; pool = c.in-Busy.ensures.of_pool };
          taken_known = known_nothing g.K.Known.is_known _ c.in-Busy.ensures.popped.1;
          fresh_known = held.fresh_known;
        };
    turn =
        let t = c.idle_turn-in-Busy.ensures in
        let drawn = c.in-Busy.ensures in
        record {
          turn = IsTurn-idle _ _ _ _ _ _ _ _ _ _ _ _ _
              drawn.popped.0 c.requires.may.none drawn.popped.1 c.requires.may.equipped.room drawn.words_are
              t.number_is (ap is_idle t.kind_is) t.shaped t.lowered t.broken t.pops t.pushes
              (λ whole. rw t.kind_is (drawn.alone whole));
          pushes = omega (arith, t.pushes);
        };
  };
  saw = rw c.idle_turn-in-Busy.ensures.kind_is c.in-Busy.ensures.looked;
}

pub visit_first-end-requires-clause-may : goal.visit_first-end-requires-clause-may
visit_first-end-requires-clause-may g c κs outlives =
    let may = c.requires.may.equipped in
    let t = c.in-Entries.ensures.popped in
    record {
      equipped = record {
        is_ground = may.is_ground;
        target_is = may.target_is;
        are_held = record {
          seats = record { labels = may.are_held.seats.labels; pool = c.in-Entries.ensures.of_pool };
          taken_known = known_turned g.K.Known.is_known _ t.out t.turned t.known_all;
          fresh_known = may.are_held.fresh_known;
        };
        room = may.room;
        batch_few = may.batch_few;
      };
      some = took_some g.K.Known.is_known _ _ _ _ _ _ t;
    }

pub returns-in-Entries : goal.returns-in-Entries
returns-in-Entries g c = record {
  turn = record {
    means = c.visit_first-end.ensures.means;
    turn =
        let drawn = c.in-Entries.ensures in
        record {
          turn = IsTurn-popped _ _ _ g.K.Known.is_known _ _ _ _ _ _ _ _ _ _ _
              c.requires.may.none drawn.popped drawn.words_are
              (λ node time known. omega (arith, g.K.Known.within node time known)) c.visit_first-end.ensures.visit;
          pushes = omega (arith, c.visit_first-end.ensures.visit.visit.pushes);
        };
  };
  saw = SawAs-visited c.visit_first-end.result.turn.kind _ _ _ _ _ _ _ c.visit_first-end.ensures.visit.visit.visited;
}
