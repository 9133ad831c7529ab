use Rattle.std.proofs.Common.{arith, ap, sym, subst, ◌∙◌, ◌≡◌, length, List, [], ◌∷◌, ◌++◌}
use Rattle.std.specs.List.Sorted.{IsPermutation}
use Rattle.std.proofs.lemmas.List.{append-nil, length-append}
use Rattle.std.proofs.lemmas.List.Sorted.{IsPermutation-append_left}
use Rattle.ea_goal.specs.Frontiers.{Takes}
use Rattle.ea_goal.specs.declared.frontier.Entry.{Entry}
use Rattle.ea_goal.proofs.Waiting.{front_of_last, takes}
use Rattle.ea_goal.proofs.frontier.Frontier.take.Goals as goal
use Rattle.ea_goal.proofs.frontier.Frontier.take.Goals.{in-Some-pop, in-None-pop}

-- the last of the stack
pub returns-in-Some : goal.returns-in-Some
returns-in-Some c =
    let heap = c.self.inside.heap.data.items in
    let before = c.self.inside.stack.items in
    let stack = c.pop.new.self.items in
    let entry = c.in-Some.entry in
    let last : List Entry = entry ∷ [] in
    let is : before ≡ stack ++ last = c.in-Some.ensures.items in
    subst (λ (xs : List Entry). Takes xs (heap ++ stack) entry) c.self.view_is
    (takes (heap ++ before) (heap ++ stack) entry
    (subst (λ (xs : List Entry). IsPermutation (heap ++ xs) (entry ∷ (heap ++ stack))) (sym is) (front_of_last heap stack entry))
    (omega (arith, ap (λ (xs : List Entry). length xs) is, length-append stack last, length-append heap before, length-append heap stack)))

-- the greatest of the heap
pub returns : goal.returns
returns c =
    let before = c.self.inside.heap.data.items in
    let after = c.pop-2.new.self.data.items in
    let stack = c.self.inside.stack.items in
    let rest = c.pop.new.self.items in
    let is : stack ≡ rest = c.in-None.ensures.items ∙ append-nil rest in
    elim c.match-pop-2.branch [
      | in-Some-pop w ↦
          let entry = w.in-Some-pop.entry in
          let taken : Takes (before ++ stack) (after ++ stack) entry = takes (before ++ stack) (after ++ stack) entry
          (IsPermutation-append_left stack before (entry ∷ after) w.in-Some-pop.ensures.permutation)
          (omega (arith, w.in-Some-pop.ensures.len, c.self.inside.heap.data.ok, c.pop-2.new.self.data.ok, length-append before stack, length-append after stack)) in
          rw w.result-is (subst (λ (xs : List Entry). Takes c.args.self.now (after ++ xs) entry) is (subst (λ (xs : List Entry). Takes xs (after ++ stack) entry) c.self.view_is taken))
      | in-None-pop w ↦ rw w.result-is (
          let none = w.in-None-pop.ensures.none in
          let long = c.self.inside.heap.data.ok in
          let empty = c.in-None.ensures.cases in
          let short = c.self.inside.stack.ok in
          let same : after ++ rest ≡ before ++ stack = ap (λ (xs : List Entry). xs ++ rest) w.in-None-pop.ensures.unchanged.0 ∙ ap (λ (xs : List Entry). before ++ xs) (sym is) in
          (ap (λ (xs : List Entry). length xs) (sym c.self.view_is) ∙ (length-append before stack ∙ omega (arith, none, long, empty.0, short)), same ∙ c.self.view_is))
    ]
