use Rattle.std.proofs.Common.{arith, subst, List, ◌++◌, ◌+◌}
use Rattle.std.proofs.lemmas.List.{length-append}
use Rattle.std.proofs.lemmas.List.Sorted.{IsPermutation-append_left}
use Rattle.ea_goal.specs.Frontiers.{Opens}
use Rattle.ea_goal.specs.declared.frontier.Entry.{Entry}
use Rattle.ea_goal.proofs.Waiting.{opens}
use Rattle.ea_goal.proofs.frontier.Frontier.open.Goals as goal

pub returns : goal.returns
returns c =
    let before = c.self.inside.heap.data.items in
    let after = c.push.new.self.data.items in
    let stack = c.self.inside.stack.items in
    let long = c.in_ok-push.ensures.len in
    subst (λ (xs : List Entry). Opens xs (after ++ stack) c.args.label c.args.node (c.args.label + c.args.bound)) c.self.view_is
    (opens (before ++ stack) (after ++ stack) _ c.args.label c.args.node (c.args.label + c.args.bound) (IsPermutation-append_left stack _ after c.in_ok-push.ensures.permutation) (omega (arith, c.from.ensures)) (omega (arith, long, c.self.inside.heap.data.ok, c.push.new.self.data.ok, length-append before stack, length-append after stack)))
