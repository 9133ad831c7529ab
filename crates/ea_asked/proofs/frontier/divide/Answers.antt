use Rattle.std.proofs.Common.{arith, subst, sym, List}
use Rattle.std.specs.List.Sorted.{IsPermutation}
use Rattle.std.proofs.lemmas.List.Sorted.{IsPermutation-refl, IsPermutation-trans}
use Rattle.ea_asked.specs.declared.frontier.Entry.{Entry}
use Rattle.ea_asked.proofs.frontier.divide.Goals as goal
use Rattle.ea_asked.proofs.frontier.divide.Goals.{then-entries-place, else-entries-place}

pub loop-place-init : goal.loop-place-init
loop-place-init c = (IsPermutation-refl c.args.entries.now, omega arith)

pub swap-requires-clause-a_in_bounds : goal.swap-requires-clause-a_in_bounds
swap-requires-clause-a_in_bounds c = omega (arith, c.loop-place.invariant.1, c.loop-place.auto.entries, c.loop-place-test.true)

pub loop-place-preserved : goal.loop-place-preserved
loop-place-preserved c = elim c.if-entries-place.branch [
  | then-entries-place w ↦
      let moved = w.swap.ensures.permutation in
      (subst (λ (xs : List Entry). IsPermutation c.args.entries.now xs) (sym w.entries-is) (IsPermutation-trans c.args.entries.now c.loop-place.entries w.swap.new.self c.loop-place.invariant.0 moved), omega (arith, w.begin-is, c.loop-place.invariant.1))
  | else-entries-place w ↦
      (subst (λ (xs : List Entry). IsPermutation c.args.entries.now xs) (sym w.entries-is) c.loop-place.invariant.0, omega (arith, w.begin-is, c.loop-place.invariant.1))
]
