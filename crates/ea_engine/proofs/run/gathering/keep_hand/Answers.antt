use Rattle.std.proofs.Common.{refl, arith}
use Rattle.ea_engine.proofs.OpeningLemmas.{OpensUpTo-then}
use Rattle.ea_engine.proofs.Settling.{each_of_option, of_option}
use Rattle.ea_engine.proofs.run.gathering.keep_hand.Goals as goal

pub keep-requires : goal.keep-requires
keep-requires c = of_option c.args.hand.now.popped _ c.requires.popped

pub keep_all-requires : goal.keep_all-requires
keep_all-requires c = λ entry inside.
    let is = c.requires.taken entry inside in
    record { from_one = is.from_one; to_last = omega (arith, is.to_last, c.keep.ensures.opens.nodes_are) }

pub keep_all-requires-2 : goal.keep_all-requires-2
keep_all-requires-2 c = λ entry inside.
    let is = c.requires.fresh entry inside in
    record { from_one = is.from_one; to_last = omega (arith, is.to_last, c.keep.ensures.opens.nodes_are, c.keep_all.ensures.opens.nodes_are) }

pub returns : goal.returns
returns c =
    let first = c.keep.ensures in
    let second = c.keep_all.ensures in
    let third = c.keep_all-2.ensures in
    record {
      popped = each_of_option c.args.hand.now.popped _ (λ e inside. third.opens.kept e.node (second.opens.kept e.node (first.waits e inside)));
      taken = λ e inside. third.opens.kept e.node (second.waits e inside);
      fresh = third.waits;
      opens = OpensUpTo-then _ _ _ _ _ _ (OpensUpTo-then _ _ _ _ _ _ first.opens second.opens refl) third.opens refl;
    }
