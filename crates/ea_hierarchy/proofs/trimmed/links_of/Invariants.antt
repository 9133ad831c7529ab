use Rattle.ea_hierarchy.specs.Trimmed.{AreMarked}
use Rattle.ea_hierarchy.proofs.Trimming.{AreGathered}
use Rattle.ea_hierarchy.proofs.trimmed.links_of.Given as goal

abbrev pub invariant-loop-place : goal.invariant-loop-place
invariant-loop-place l = AreMarked l.upward.firsts.items l.upward.heads.items l.numbers l.rank l.marks.items

abbrev pub invariant-loop-place-2 : goal.invariant-loop-place-2
invariant-loop-place-2 l = AreGathered l.upward.firsts.items l.upward.heads.items l.numbers l.rank l.marks.items l.links.items l.place
