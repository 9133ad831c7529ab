use Rattle.std.proofs.Common.{◌-◌, ◌∙◌, [], ◌∷◌, ap, arith, length, subst, sym, List, map}
use Rattle.std.proofs.lemmas.List.{length-append}
use Rattle.std.specs.List.{All}
use Rattle.std.specs.List.Sorted.{IsPermutation}
use Rattle.std.proofs.lemmas.List.Elements.{All-push}
use Rattle.std.proofs.lemmas.List.Sorted.{All-permutation, IsPermutation-refl, IsPermutation-swap}
use Rattle.ea_goal.specs.Frontiers.{Opens}
use Rattle.ea_goal.specs.declared.frontier.Entry.{Entry as Met}
use Rattle.ea_asked.specs.Open.{IsFrom, met}
use Rattle.ea_asked.specs.declared.frontier.Entry.{Entry}
use Rattle.ea_asked.proofs.Opening.{opened}
use Rattle.ea_asked.proofs.frontier.Frontier.open.Goals as goal

-- The last entry is moved before the window.
moves : (c : goal.After-self-then-label-self-1) → IsPermutation c.push.new.self.items c.swap.new.self.items
moves c =
    let last : List Entry = record { label = c.args.label; node = c.args.node } ∷ [] in
    let long = ap (λ (xs : List Entry). length xs) c.in_ok-push.ensures.items ∙ length-append c.self.inside.entries.items last in
    IsPermutation-swap c.push.new.self.items c.swap.new.self.items c.min-place.result (c.len-last.result - 1)
    (omega (arith, long, c.min-place.ensures, c.len-last.ensures, c.push.new.self.ok)) (omega (arith, long, c.len-last.ensures, c.push.new.self.ok)) c.swap.ensures.items

pub invariant_of-self-then-label-self : goal.invariant_of-self-then-label-self
invariant_of-self-then-label-self c =
    let before = c.self.inside.entries.items in
    let pushed = c.push.new.self.items in
    let after = c.swap.new.self.items in
    let entry : Entry = record { label = c.args.label; node = c.args.node } in
    let least = c.min-self-inside.result in
    let old : All (IsFrom least) before = λ place other inside. omega (arith, c.self.invariant place other inside, c.min-self-inside.ensures) in
    let all : All (IsFrom least) pushed = subst (λ (xs : List Entry). All (IsFrom least) xs) (sym c.in_ok-push.ensures.items) (All-push (IsFrom least) before entry old (omega (arith, c.min-self-inside.ensures))) in
    All-permutation (IsFrom least) pushed after (moves c) all

pub returns-then-label-self : goal.returns-then-label-self
returns-then-label-self c =
    let before = c.self.inside.entries.items in
    let pushed = c.push.new.self.items in
    let after = c.swap.new.self.items in
    let entry : Entry = record { label = c.args.label; node = c.args.node } in
    subst (λ (xs : List Met). Opens xs (map met after) c.args.label c.args.node c.args.label) c.self.view_is
    (opened before pushed after entry c.in_ok-push.ensures.items (moves c))

pub returns-else-label-self : goal.returns-else-label-self
returns-else-label-self c =
    let before = c.self.inside.entries.items in
    let pushed = c.push.new.self.items in
    let entry : Entry = record { label = c.args.label; node = c.args.node } in
    subst (λ (xs : List Met). Opens xs (map met pushed) c.args.label c.args.node c.args.label) c.self.view_is
    (opened before pushed pushed entry c.in_ok-push.ensures.items (IsPermutation-refl pushed))
