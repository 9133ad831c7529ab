use Rattle.std.proofs.Common.{rules, ℕ}
use Rattle.ea_engine.specs.Companies.{idle_with, IsIdleFor, LeavesAs}
use Rattle.ea_engine.proofs.Staying.{goes_on, go_stays, member_stays, stays_on}
use Rattle.earliest.proofs.solver_choice.find.Goals as goal

pub find_by-requires-clause-crew : goal.find_by-requires-clause-crew
find_by-requires-clause-crew g c κs within = record {
  settings_are = search rules;
  workers = search rules;
  stays = λ turns last run. (
    stays_on _ (λ p idle. Unit {0}) (λ p idle t f q kept step. (go_stays t.kind t.number _ f (search rules), tt)) 0 tt turns last tt run,
    λ one. goes_on _ (λ p t f q step. search rules) tt turns last run,
  );
}

pub find_by-requires-2-clause-crew : goal.find_by-requires-2-clause-crew
find_by-requires-2-clause-crew g c κs within = record {
  settings_are = search rules;
  workers = search rules;
  stays = λ turns last run. (
    stays_on _ (λ p idle. IsIdleFor p.0 idle)
        (λ p idle t f q kept step.
        let leaves : LeavesAs t.kind t.number p.0 f = search rules in
        let is : (turns : ℕ) → IsIdleFor p.0 turns → IsIdleFor q.0 (idle_with turns t.kind) = search rules in
        (member_stays p.0 idle t.kind t.number f kept leaves, is idle kept))
        0 _ turns last c.member-member.ensures.idle run,
    λ one. absurd (search rules),
  );
}
