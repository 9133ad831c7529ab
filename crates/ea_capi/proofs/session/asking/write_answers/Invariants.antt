use Rattle.ea_capi.proofs.Telling.{AreAnswered}
use Rattle.ea_capi.proofs.session.asking.write_answers.Given as goal

abbrev pub invariant-loop-place : goal.invariant-loop-place
invariant-loop-place l = AreAnswered l.asked.search.answer l.asked.list.items l.out l.place
