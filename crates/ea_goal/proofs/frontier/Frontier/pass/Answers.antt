use Rattle.std.proofs.Common.{arith, subst, sym, List, [], ◌∷◌, ◌++◌, ◌-◌}
use Rattle.std.proofs.lemmas.List.{length-append}
use Rattle.ea_goal.specs.Frontiers.{Opens}
use Rattle.ea_goal.specs.declared.frontier.Entry.{Entry}
use Rattle.ea_goal.specs.declared.frontier.TheConstants.{FARTHEST}
use Rattle.ea_goal.proofs.Waiting.{last_in_front, opens}
use Rattle.ea_goal.proofs.frontier.Frontier.pass.Goals as goal

pub returns : goal.returns
returns c =
    let heap = c.self.inside.heap.data.items in
    let stack = c.self.inside.stack.items in
    let label = c.args.label in
    let node = c.args.node in
    let entry : Entry = record { nearness = FARTHEST - label; label = label; node = node } in
    let last : List Entry = entry ∷ [] in
    let opened = opens (heap ++ stack) (heap ++ (stack ++ last)) (FARTHEST - label) label node label (last_in_front heap stack entry) (omega arith) (omega (arith, length-append heap stack, length-append heap (stack ++ last), length-append stack last)) in
    subst (λ (xs : List Entry). Opens xs (heap ++ c.push.new.self.items) label node label) c.self.view_is
    (subst (λ (xs : List Entry). Opens (heap ++ stack) (heap ++ xs) label node label) (sym c.in_ok-push.ensures.items) opened)
