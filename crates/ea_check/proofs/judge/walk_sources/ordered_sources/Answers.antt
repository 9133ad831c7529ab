use Rattle.std.proofs.Common.{rules}
use Rattle.std.proofs.lemmas.List.Sorted.{answers_always}
use Rattle.ea_check.proofs.Ordering.{are_ordered}
use Rattle.ea_check.proofs.judge.walk_sources.ordered_sources.Goals as goal

pub returns : goal.returns
returns c =
    let same = c.in_ok-ordered.ensures.items_if_clones_equal (λ x y e. e) in
    let sorted = c.sort_unstable_by_key.ensures.sorted (λ s. (s.node, s.departure)) (answers_always _ _ _ (λ f a r g h. search rules)) in
    are_ordered c.args.sources.now c.in_ok-ordered.ordered.items c.sort_unstable_by_key.new.self.items same c.sort_unstable_by_key.ensures.permutation sorted
