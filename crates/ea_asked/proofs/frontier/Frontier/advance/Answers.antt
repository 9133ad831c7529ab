use Rattle.std.proofs.Common.{map, subst, List}
use Rattle.std.specs.List.{All}
use Rattle.std.specs.List.Sorted.{IsPermutation}
use Rattle.std.specs.Vec.{with_items}
use Rattle.std.proofs.lemmas.List.Sorted.{All-permutation, IsPermutation-map}
use Rattle.ea_goal.specs.declared.frontier.Entry.{Entry as Met}
use Rattle.ea_asked.specs.Open.{IsFrom, met}
use Rattle.ea_asked.specs.declared.frontier.Entry.{Entry}
use Rattle.ea_asked.proofs.Opening.{divided}
use Rattle.ea_asked.proofs.frontier.Frontier.advance.Goals as goal

pub invariant_of-self : goal.invariant_of-self
invariant_of-self c =
    let least = c.least_label-self-inside.result in
    let all : All (IsFrom least) c.self.inside.entries.items = subst (λ (xs : List Entry). All (IsFrom least) xs) c.deref.ensures.value c.least_label-self-inside.ensures in
    All-permutation (IsFrom least) c.self.inside.entries.items _ (divided c.self.inside.entries c.as_mut_slice.result.now c.divide-self-inside.new.entries c.as_mut_slice.ensures.value c.divide-self-inside.ensures) all

pub returns : goal.returns
returns c =
    let after = (with_items c.self.inside.entries c.divide-self-inside.new.entries).items in
    subst (λ (xs : List Met). IsPermutation xs (map met after)) c.self.view_is (IsPermutation-map met c.self.inside.entries.items after (divided c.self.inside.entries c.as_mut_slice.result.now c.divide-self-inside.new.entries c.as_mut_slice.ensures.value c.divide-self-inside.ensures))
