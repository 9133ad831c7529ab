use Rattle.std.proofs.lemmas.List.{replicate_more}
use Rattle.earliest.proofs.solver_choice.copies.Goals as goal

pub loop-i-preserved : goal.loop-i-preserved
loop-i-preserved g c = rw (c.in_ok-push.ensures.items, c.loop-i.invariant) (replicate_more c.loop-i.i c.args.value)
