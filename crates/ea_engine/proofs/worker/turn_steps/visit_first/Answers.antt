use Rattle.std.proofs.Common.{◌∙◌}
use Rattle.ea_engine.proofs.WorkLemmas.{IsVisit-saw}
use Rattle.ea_engine.proofs.worker.turn_steps.visit_first.Goals as goal

pub read_ahead-requires-clause-may : goal.read_ahead-requires-clause-may
read_ahead-requires-clause-may g c κs outlives = record {
  may_read = record { is_ground = c.requires.may.equipped.is_ground; seat_fits = c.requires.may.equipped.are_held.seats.labels };
  all_known = rw c.deref.ensures.0 c.requires.may.equipped.are_held.taken_known;
}

pub visit_taken-requires-clause-may : goal.visit_taken-requires-clause-may
visit_taken-requires-clause-may g c κs outlives =
    let may = c.requires.may.equipped in
    let held = may.are_held in
    record {
      equipped = record {
        is_ground = may.is_ground;
        target_is = may.target_is;
        are_held = record {
          seats = record { labels = c.read_ahead.ensures.same_table ∙ held.seats.labels; pool = held.seats.pool };
          taken_known = held.taken_known;
          fresh_known = held.fresh_known;
        };
        room = may.room;
        batch_few = may.batch_few;
      };
      some = c.requires.may.some;
    }

pub returns : goal.returns
returns g c = record {
  means = c.visit_taken.ensures.means;
  visit = IsVisit-saw _ _ _ _ _ _ _ _ _ _ _ c.read_ahead.ensures.saw c.visit_taken.ensures.visit;
}
