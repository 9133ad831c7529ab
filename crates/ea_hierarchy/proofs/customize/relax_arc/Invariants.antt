use Rattle.ea_hierarchy.proofs.Relaxing.{IsRelaxing}
use Rattle.ea_hierarchy.proofs.customize.relax_arc.Given as goal

abbrev pub invariant-loop-later : goal.invariant-loop-later
invariant-loop-later l = IsRelaxing l.upward.firsts.items l.upward.heads.items l.initial.numbers.ups.items l.initial.numbers.downs.items l.numbers.ups.items l.numbers.downs.items l.rank l.place l.from l.later
