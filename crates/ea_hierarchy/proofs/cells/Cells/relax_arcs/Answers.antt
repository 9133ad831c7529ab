use Rattle.std.proofs.Common.{arith, ap, length, refl, subst, sym, ◌+◌, ◌-◌, ◌≡◌, ◌∙◌, ℕ}
use Rattle.std.specs.Prelude.{slice_index}
use Rattle.ea_hierarchy.specs.Cells.{AreWithin, IsSameAbove, LowersReach, reach_of}
use Rattle.ea_hierarchy.specs.Hierarchies.{IsFrom}
use Rattle.ea_hierarchy.specs.Numbers.{plus}
use Rattle.ea_hierarchy.specs.declared.cells.Aim.{Aim}
use Rattle.ea_hierarchy.proofs.Finding.{inside, read_at}
use Rattle.ea_hierarchy.proofs.Reaching.{relaxes_more}
use Rattle.ea_hierarchy.proofs.cells.Cells.relax_arcs.Goals as goal

pub loop-place-preserved : goal.loop-place-preserved
loop-place-preserved c =
    let firsts = c.args.upward.now.firsts.items in
    let heads = c.args.upward.now.heads.items in
    let downs = c.args.numbers.now.downs.items in
    let nodes : ℕ = length firsts - 1 in
    let aim = c.args.self.now.aim in
    let list = c.args.self.now.list.items in
    let middle = c.loop-place.self.list.items in
    let after = c.lower_within-highest.new.self.list.items in
    let place = c.loop-place.place in
    let so_far = c.loop-place.invariant in
    let highest = c.loop-place.highest in
    let higher = c.lower_within-highest.result in
    let begin = read_at firsts c.args.rank c.index.result.now (omega (arith, c.requires.rank)) c.index.ensures in
    let end = read_at firsts (c.args.rank + 1) c.index-2.result.now (omega (arith, c.requires.rank)) c.index-2.ensures in
    let is : IsFrom firsts c.args.rank place = record { from = omega (arith, begin, c.loop-place.auto.place); before = omega (arith, end, c.loop-place-test.true) } in
    let within = inside nodes firsts heads c.requires.upward c.args.rank place c.requires.rank is in
    let head = read_at heads place c.index-in-loop-place-2.result.now within c.index-in-loop-place-2.ensures in
    let down = read_at downs place c.index-in-loop-place.result.now (omega (arith, within, c.requires.numbers.downward)) c.index-in-loop-place.ensures in
    let sum : c.plus-sum.result ≡ plus (slice_index downs place) (reach_of aim list c.args.rank) = c.plus-sum.ensures ∙ ap (λ n. plus n c.reach-reach.result) (sym down) ∙ ap (plus (slice_index downs place)) c.reach-reach.ensures in
    let lowers : LowersReach aim middle after (slice_index heads place) (plus (slice_index downs place) (reach_of aim list c.args.rank)) =
    subst (λ (s : Aim). LowersReach s middle after (slice_index heads place) (plus (slice_index downs place) (reach_of aim list c.args.rank))) so_far.aim
    (subst (λ h. LowersReach c.loop-place.self.aim middle after h (plus (slice_index downs place) (reach_of aim list c.args.rank))) (sym head)
    (subst (λ n. LowersReach c.loop-place.self.aim middle after c.index-in-loop-place-2.result.now n) sum c.lower_within-highest.ensures.lowers)) in
    let same = subst (λ (s : Aim). IsSameAbove s middle after highest higher) so_far.aim c.lower_within-highest.ensures.above in
    record {
      aim = c.lower_within-highest.ensures.aim ∙ so_far.aim;
      relaxes = relaxes_more nodes firsts heads downs aim list middle after c.args.rank place (slice_index downs place) highest higher c.requires.upward c.requires.rank is refl same so_far.relaxes lowers;
    }

pub lower_within-highest-requires-clause-within : goal.lower_within-highest-requires-clause-within
lower_within-highest-requires-clause-within c =
    subst (λ (a : Aim). AreWithin a c.loop-place.self.list.items) (sym c.loop-place.invariant.aim) (λ rank. omega (arith, c.loop-place.invariant.relaxes.fall rank, c.requires.within rank))

pub lower_within-highest-requires-clause-rank : goal.lower_within-highest-requires-clause-rank
lower_within-highest-requires-clause-rank c =
    let firsts = c.args.upward.now.firsts.items in
    let heads = c.args.upward.now.heads.items in
    let nodes : ℕ = length firsts - 1 in
    let place = c.loop-place.place in
    let begin = read_at firsts c.args.rank c.index.result.now (omega (arith, c.requires.rank)) c.index.ensures in
    let end = read_at firsts (c.args.rank + 1) c.index-2.result.now (omega (arith, c.requires.rank)) c.index-2.ensures in
    let is : IsFrom firsts c.args.rank place = record { from = omega (arith, begin, c.loop-place.auto.place); before = omega (arith, end, c.loop-place-test.true) } in
    let within = inside nodes firsts heads c.requires.upward c.args.rank place c.requires.rank is in
    let head = read_at heads place c.index-in-loop-place-2.result.now within c.index-in-loop-place-2.ensures in
    let up = c.requires.upward.upward c.args.rank place c.requires.rank is in
    omega (arith, head, up.1, c.loop-place.invariant.relaxes.count, c.requires.count)
