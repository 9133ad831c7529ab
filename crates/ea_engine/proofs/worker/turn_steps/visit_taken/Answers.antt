use Rattle.ea_engine.proofs.HoldLemmas.{known_front, known_last}
use Rattle.ea_engine.proofs.worker.turn_steps.visit_taken.Goals as goal

pub visit-requires-clause-target : goal.visit-requires-clause-target
visit-requires-clause-target g c κs outlives = c.requires.may.equipped.target_is

pub visit-requires-clause-entry : goal.visit-requires-clause-entry
visit-requires-clause-entry g c κs outlives =
    let may = c.requires.may.equipped in
    record {
      is_ground = may.is_ground;
      are_means = record { seats = may.are_held.seats; fresh_known = may.are_held.fresh_known };
      room = may.room;
      batch_few = may.batch_few;
      is_known = known_last g.K.Known.is_known _ _ _ c.in-Some.ensures.items may.are_held.taken_known;
    }

pub returns : goal.returns
returns g c = record {
  means = record {
    seats = c.visit.ensures.means.seats;
    taken_known = known_front g.K.Known.is_known _ _ _ c.in-Some.ensures.items c.requires.may.equipped.are_held.taken_known;
    fresh_known = c.visit.ensures.means.fresh_known;
  };
  visit =
      let may = c.requires.may.equipped in
      let entry = c.in-Some.entry in
      record {
        entry = entry;
        next = c.in-Some.ensures.items;
        reached = (may.is_ground.posed.names entry.node entry.key).0 (known_last g.K.Known.is_known _ _ _ c.in-Some.ensures.items may.are_held.taken_known);
        visit = c.visit.ensures.visited;
      };
}
