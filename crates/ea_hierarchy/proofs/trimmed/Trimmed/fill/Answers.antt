use Rattle.std.proofs.Common.{sym, subst}
use Rattle.ea_hierarchy.specs.Trimmed.{AreTrimmed}
use Rattle.ea_hierarchy.specs.declared.trimmed.Trimmed.{Trimmed}
use Rattle.ea_hierarchy.proofs.trimmed.Trimmed.fill.Goals.{then-arcs-self+in_ok-links+in_ok-add, else-arcs-self}
use Rattle.ea_hierarchy.proofs.trimmed.Trimmed.fill.Goals as goal

pub loop-rank-preserved : goal.loop-rank-preserved
loop-rank-preserved c =
    let firsts = c.args.upward.now.firsts.items in
    let heads = c.args.upward.now.heads.items in
    let numbers = c.args.numbers.now in
    elim c.if-arcs-self.branch [
      | then-arcs-self+in_ok-links+in_ok-add w ↦
          subst (λ (t : Trimmed). AreTrimmed firsts heads numbers t.rows.items) (sym w.self-is) (w.in_ok-add.ensures firsts heads numbers c.loop-rank.invariant w.in_ok-links.ensures)
      | else-arcs-self w ↦
          subst (λ (t : Trimmed). AreTrimmed firsts heads numbers t.rows.items) (sym w.self-is) c.loop-rank.invariant
    ]
