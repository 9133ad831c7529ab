use Rattle.std.proofs.Common.{arith, inl, inr, subst, sym, ◌++◌, List, Contains, eqb-true, vec_len}
use Rattle.std.proofs.lemmas.List.Elements.{Contains-append_cases}
use Rattle.ea_goal.specs.Frontiers.{AreBeyond}
use Rattle.ea_goal.specs.declared.frontier.Entry.{Entry}
use Rattle.ea_goal.proofs.frontier.Frontier.are_beyond.Goals as goal

pub returns : goal.returns
returns c = λ above entry there.
    let heap = c.self.inside.heap.data.items in
    let stack = c.self.inside.stack.items in
    let far = subst (λ (xs : List Entry). AreBeyond c.args.last xs) c.as_slice.ensures.value (c.are_above.ensures above) in
    let none = eqb-true (vec_len c.self.inside.stack) 0 (sym c.if-not-is_empty.ensures) in
    let short = c.self.inside.stack.ok in
    let inside : Contains (heap ++ stack) entry = subst (λ (xs : List Entry). Contains xs entry) (sym c.self.view_is) there in
    elim (Contains-append_cases heap stack entry inside) [
      | inl here ↦ far entry here
      | inr on ↦ let place = on.1 in absurd (omega (arith, place, none, short))
    ]
