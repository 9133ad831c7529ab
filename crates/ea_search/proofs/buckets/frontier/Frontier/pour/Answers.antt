use Rattle.std.proofs.Common.{ℕ, arith}
use Rattle.ea_search.proofs.Fronts.{KeepsWaiting-same, KeepsWaiting-then, Takes-puts}
use Rattle.ea_search.proofs.buckets.frontier.Frontier.pour.Goals as goal

pub moving-init : goal.moving-init
moving-init c = λ label. KeepsWaiting-same label _

pub put-requires-clause-node : goal.put-requires-clause-node
put-requires-clause-node c =
    let any : ℕ → ℕ = λ v. v in
    let taken = c.in-Some.ensures any in
    (taken.node.0, omega (arith, taken.node.1, taken.nodes))

pub moving-preserved : goal.moving-preserved
moving-preserved c = λ label.
    KeepsWaiting-then label _ _ _ (c.moving.invariant label) (Takes-puts label (c.in-Some.time, c.in-Some.node) _ _ _ (c.in-Some.ensures label) c.put.ensures)

pub returns-in_default : goal.returns-in_default
returns-in_default c = λ label. rw c.in_default.ensures.0 (c.moving.invariant label)

pub returns : goal.returns
returns c = c.moving.invariant
