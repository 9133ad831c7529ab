use Rattle.std.proofs.Common.{subst, sym, ℕ, List, ◌<◌}
use Rattle.std.specs.Prelude.{All}
use Rattle.std.proofs.lemmas.List.Elements.{All-nil}
use Rattle.std.proofs.lemmas.List.Sorted.{All-permutation, Contains-permutation, IsNonDecreasingBy-from_sort}
use Rattle.ea_hierarchy.proofs.upward.find_heads.Goals as goal

pub returns-clause-ascend : goal.returns-clause-ascend
returns-clause-ascend c = λ place later order inside. IsNonDecreasingBy-from_sort (λ x. x) c.sort_unstable.new.self.items c.sort_unstable.ensures.sorted place later 0 order inside

pub returns-clause-below : goal.returns-clause-below
returns-clause-below c =
    let nodes = c.args.network.now.nodes in
    let low : All (λ head. head < nodes) c.clear.new.self.items = subst (λ (xs : List ℕ). All (λ head. head < nodes) xs) (sym c.clear.ensures.items) (All-nil (λ head. head < nodes)) in
    let by_arcs = All-permutation (λ head. head < nodes) c.find_over_arcs.new.found.items c.reverse.new.self.items c.reverse.ensures.permutation (c.in_ok-find_over_arcs.ensures.below low) in
    let by_children = subst (λ n. All (λ head. head < n) c.reverse.new.self.items → All (λ head. head < n) c.find_over_children.new.found.items) c.requires.growing.room c.in_ok-find_over_children.ensures.below in
    All-permutation (λ head. head < nodes) c.find_over_children.new.found.items c.sort_unstable.new.self.items c.sort_unstable.ensures.permutation (by_children by_arcs)

pub returns-clause-arcs : goal.returns-clause-arcs
returns-clause-arcs c = λ head over.
    Contains-permutation c.find_over_children.new.found.items c.sort_unstable.new.self.items head c.sort_unstable.ensures.permutation (c.in_ok-find_over_children.ensures.kept head (Contains-permutation c.find_over_arcs.new.found.items c.reverse.new.self.items head c.reverse.ensures.permutation (c.in_ok-find_over_arcs.ensures.all head over)))

pub returns-clause-children : goal.returns-clause-children
returns-clause-children c = λ head over.
    Contains-permutation c.find_over_children.new.found.items c.sort_unstable.new.self.items head c.sort_unstable.ensures.permutation (c.in_ok-find_over_children.ensures.all head over)
