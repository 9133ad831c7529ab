use Rattle.std.proofs.Common.{arith, subst, ◌+◌, ◌≡◌, inl, inr, ℕ}
use Rattle.std.specs.Prelude.{slice_index}
use Rattle.std.proofs.lemmas.Bool.Decides.{leb_tells}
use Rattle.ea_hierarchy.specs.Hierarchies.{AreOver}
use Rattle.ea_hierarchy.proofs.Relaxing.{lowers_then, over_stays}
use Rattle.ea_hierarchy.proofs.customize.relax_rank.Goals as goal

pub loop-place-preserved : goal.loop-place-preserved
loop-place-preserved c =
    let firsts = c.args.upward.now.firsts.items in
    let heads = c.args.upward.now.heads.items in
    let next : ℕ = slice_index firsts (c.args.rank + 1) in
    let before = c.loop-place.numbers in
    let after = c.relax_arc.new.numbers in
    record {
      lowers = lowers_then next next c.args.numbers.now.ups.items c.args.numbers.now.downs.items before.ups.items before.downs.items after.ups.items after.downs.items (omega arith) c.loop-place.invariant.lowers c.relax_arc.ensures.lowers;
      triangles = λ place below is. elim (leb_tells c.loop-place.place place) [
        | inl last ↦
            let same : c.loop-place.place ≡ place = omega (arith, last.1, below) in
            subst (λ p. AreOver firsts heads after.ups.items after.downs.items c.args.rank p next) same c.relax_arc.ensures.triangles
        | inr early ↦
            over_stays firsts heads before.ups.items before.downs.items after.ups.items after.downs.items next c.args.rank place next is.before (omega arith) c.relax_arc.ensures.lowers (c.loop-place.invariant.triangles place early.1 is)
      ];
    }
