use Rattle.std.proofs.Common.{arith}
use Rattle.std.proofs.lemmas.Bool.Decides.{nat_tests}
use Rattle.ea_engine.proofs.HoldLemmas.{nothing}
use Rattle.ea_engine.proofs.TurnLemmas.{IsTurn-visited}
use Rattle.ea_engine.proofs.worker.turn_steps.visit_next.Goals as goal

pub pop_and_visit-requires-clause-may : goal.pop_and_visit-requires-clause-may
pop_and_visit-requires-clause-may g c κs outlives = record { equipped = c.requires.may.equipped; none = nothing _ (grind (arith, nat_tests)) }

pub visit_taken-requires-clause-may : goal.visit_taken-requires-clause-may
visit_taken-requires-clause-may g c κs outlives = record { equipped = c.requires.may.equipped; some = grind (arith, nat_tests) }

pub returns : goal.returns
returns g c = record {
  means = c.visit_taken.ensures.means;
  turn =
      let visit = c.visit_taken.ensures.visit in
      record { turn = IsTurn-visited _ _ _ _ _ _ _ visit c.requires.may.few; pushes = omega (arith, visit.visit.pushes) };
}
