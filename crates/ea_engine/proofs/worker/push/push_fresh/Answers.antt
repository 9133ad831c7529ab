use Rattle.std.proofs.Common.{ap, arith, length, sym}
use Rattle.std.proofs.lemmas.Bool.{false≢true}
use Rattle.std.proofs.lemmas.Bool.Decides.{nat_tests}
use Rattle.ea_engine.proofs.HoldLemmas.{known_nothing, known_left, progress_left, progress_all, few_left, nothing}
use Rattle.ea_engine.proofs.worker.push.push_fresh.Goals as goal

pub returns-in-Ok : goal.returns-in-Ok
returns-in-Ok g c = record {
  of_pool = c.in-Ok.ensures.seat;
  progress = λ history. progress_all _ _ _ _ history _ _ _ c.in-Ok.ensures.push.pushed.0 c.in-Ok.ensures.push.pushed.1 c.next_u64-word.ensures;
  left_known = known_nothing g.K.Known.is_known _ c.in-Ok.ensures.push.pushed.1;
  none = λ is. c.in-Ok.ensures.push.pushed.1;
  some = λ is. absurd (false≢true (sym is));
  few = omega (arith, ap length c.in-Ok.ensures.push.pushed.1);
}

pub returns-in-Err : goal.returns-in-Err
returns-in-Err g c = record {
  of_pool = c.in-Err.ensures.seat;
  progress = λ history. progress_left _ _ _ _ _ history _ _ _ c.in-Err.ensures.push.pushed c.next_u64-word.ensures;
  left_known = known_left g.K.Known.is_known _ _ _ _ _ c.in-Err.ensures.push.pushed c.requires.may.fresh_known;
  none = λ is. nothing _ (grind (arith, nat_tests));
  some = λ is. grind (arith, nat_tests);
  few = few_left _ _ _ _ _ c.in-Err.ensures.push.pushed;
}
