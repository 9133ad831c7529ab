use Rattle.std.proofs.Common.{arith, subst, ◌+◌, ◌-◌, ◌≤◌, ◌≡◌, inl, inr, length, ℕ}
use Rattle.std.specs.Prelude.{slice_index}
use Rattle.std.proofs.lemmas.Bool.Decides.{leb_tells}
use Rattle.ea_hierarchy.specs.Hierarchies.{AreOver, IsFrom}
use Rattle.ea_hierarchy.proofs.Finding.{lie_behind}
use Rattle.ea_hierarchy.proofs.Relaxing.{lowers_then, over_stays}
use Rattle.ea_hierarchy.proofs.customize.relax.Goals as goal

pub loop-rank-preserved : goal.loop-rank-preserved
loop-rank-preserved c =
    let firsts = c.args.upward.now.firsts.items in
    let heads = c.args.upward.now.heads.items in
    let next : ℕ = slice_index firsts (c.loop-rank.rank + 1) in
    let before = c.loop-rank.numbers in
    let after = c.relax_rank.new.numbers in
    record {
      lowers = lowers_then 0 next c.args.numbers.now.ups.items c.args.numbers.now.downs.items before.ups.items before.downs.items after.ups.items after.downs.items (omega arith) c.loop-rank.invariant.lowers c.relax_rank.ensures.lowers;
      triangles = λ rank place below is. elim (leb_tells c.loop-rank.rank rank) [
        | inl last ↦
            let same : c.loop-rank.rank ≡ rank = omega (arith, last.1, below) in
            let here : IsFrom firsts c.loop-rank.rank place = subst (λ r. IsFrom firsts r place) (omega (arith, same)) is in
            subst (λ r. AreOver firsts heads after.ups.items after.downs.items r place (slice_index firsts (r + 1))) same (c.relax_rank.ensures.triangles place here)
        | inr early ↦
            let far : slice_index firsts (rank + 1) ≤ next = let rise = lie_behind (length firsts - 1) firsts heads c.requires.upward rank c.loop-rank.rank early.1 (omega arith) in let step = c.requires.upward.rises c.loop-rank.rank (omega arith) in omega (arith, rise, step) in
            over_stays firsts heads before.ups.items before.downs.items after.ups.items after.downs.items next rank place (slice_index firsts (rank + 1)) (omega (arith, is.before, far)) far c.relax_rank.ensures.lowers (c.loop-rank.invariant.triangles rank place early.1 is)
      ];
    }

pub returns-clause-triangles : goal.returns-clause-triangles
returns-clause-triangles c = λ rank place later below is is_later order.
    c.loop-rank.invariant.triangles rank place (omega (arith, below)) is later is_later order is_later.before
