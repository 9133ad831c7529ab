use Rattle.std.proofs.Common.{arith, subst, sym, Bool, true, set, Vec, Global, ◌+◌, ◌-◌}
use Rattle.ea_hierarchy.specs.Hierarchies.{IsFrom}
use Rattle.ea_hierarchy.specs.Trimmed.{AreMarked}
use Rattle.ea_hierarchy.proofs.Finding.{read_at}
use Rattle.ea_hierarchy.proofs.Trimming.{marked_more}
use Rattle.ea_hierarchy.proofs.trimmed.mark.Goals.{then-replace, else-replace}
use Rattle.ea_hierarchy.proofs.trimmed.mark.Goals as goal

pub loop-later-preserved : goal.loop-later-preserved
loop-later-preserved c =
    let firsts = c.args.upward.now.firsts.items in
    let heads = c.args.upward.now.heads.items in
    let begin = read_at firsts c.args.rank c.index.result.now (omega (arith, c.requires.rank)) c.index.ensures in
    let end = read_at firsts (c.args.rank + 1) c.index-2.result.now (omega (arith, c.requires.rank)) c.index-2.ensures in
    let is : IsFrom firsts c.args.rank c.loop-later.later = record { from = omega (arith, c.requires.place.from, c.loop-later.auto.later); before = omega (arith, end, c.loop-later-test.true) } in
    record {
      above = c.loop-joining.invariant;
      marked = elim c.if-replace.branch [
        | then-replace w ↦
            let more = marked_more firsts heads c.args.numbers.now c.args.rank c.loop-later.later c.loop-later.marks.items c.loop-later.invariant.marked is (c.replace.ensures w.if-replace.true) in
            let same = subst (λ b. AreMarked firsts heads c.args.numbers.now c.args.rank (set c.loop-later.marks.items (c.loop-later.later - b) true)) begin more in
            subst (λ (v : Vec Bool Global). AreMarked firsts heads c.args.numbers.now c.args.rank v.items) (sym w.marks-is) same
        | else-replace w ↦ subst (λ (v : Vec Bool Global). AreMarked firsts heads c.args.numbers.now c.args.rank v.items) (sym w.marks-is) c.loop-later.invariant.marked
      ];
    }
