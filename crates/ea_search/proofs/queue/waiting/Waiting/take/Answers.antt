use Rattle.std.proofs.Common.{◌≡◌, ℕ, ◌<◌, ◌≤◌, Bool, List, ◌∷◌, length, ap, subst, arith}
use Rattle.ea_search.specs.Worklist.{IsWorklist}
use Rattle.ea_search.proofs.Worklists.{first-marked, marked-node, IsWorklist-pop}
use Rattle.ea_search.proofs.queue.waiting.Waiting.take.Goals as goal

-- the queue that was, with the node that left
before : (room v : ℕ) (old rest : List ℕ) (marked : List Bool) → IsWorklist room old marked → old ≡ v ∷ rest → IsWorklist room (v ∷ rest) marked
before room v old rest marked w e = let P : List ℕ → Type 0 = λ q. IsWorklist room q marked in subst P e w

pub overflow_sub-node : goal.overflow_sub-node
overflow_sub-node c =
    let was = before _ c.in_ok-node.node _ _ _ c.self.invariant c.in_ok-node.ensures.items in
    (marked-node _ _ (first-marked _ _ _ _ was)).0

pub index_mut-requires : goal.index_mut-requires
index_mut-requires c =
    let was = before _ c.in_ok-node.node _ _ _ c.self.invariant c.in_ok-node.ensures.items in
    let node : (0 < c.in_ok-node.node) × (c.in_ok-node.node ≤ length c.self.inside.marked.items) = marked-node _ _ (first-marked _ _ _ _ was) in
    omega (arith, c.self.inside.marked.ok.0)

pub invariant_of-self-2 : goal.invariant_of-self-2
invariant_of-self-2 c =
    let was = before _ c.in_ok-node.node _ _ _ c.self.invariant c.in_ok-node.ensures.items in
    rw c.in_ok-node.ensures.capacity (IsWorklist-pop _ _ _ _ was)

pub returns-clause-node : goal.returns-clause-node
returns-clause-node c =
    let nodes = ap (λ o. o.nodes) c.self.view_is in
    let was = before _ c.in_ok-node.node _ _ _ c.self.invariant c.in_ok-node.ensures.items in
    let node : (0 < c.in_ok-node.node) × (c.in_ok-node.node ≤ length c.self.inside.marked.items) = marked-node _ _ (first-marked _ _ _ _ was) in
    (omega arith, omega (arith, c.self.inside.marked.ok.0))
