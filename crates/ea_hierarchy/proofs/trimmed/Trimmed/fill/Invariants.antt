use Rattle.ea_hierarchy.specs.Trimmed.{AreTrimmed}
use Rattle.ea_hierarchy.proofs.trimmed.Trimmed.fill.Given as goal

abbrev pub invariant-loop-rank : goal.invariant-loop-rank
invariant-loop-rank l = AreTrimmed l.upward.firsts.items l.upward.heads.items l.numbers l.self.rows.items
