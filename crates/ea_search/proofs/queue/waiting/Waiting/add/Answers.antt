use Rattle.std.proofs.Common.{◌≡◌, ℕ, ◌-◌, ◌<◌, ◌≤◌, Bool, false, List, length, get_or, Contains, sym, ◌∙◌, ap, subst, inl, inr, arith}
use Rattle.std.proofs.lemmas.List.{get_or_read}
use Rattle.std.proofs.lemmas.List.Elements.{Contains-push_cases}
use Rattle.ea_search.specs.Worklist.{is_marked}
use Rattle.ea_search.proofs.Worklists.{is_marked-get_or, has_room, IsWorklist-push, clear-absent, marked-contains}
use Rattle.ea_search.proofs.queue.waiting.Waiting.add.Goals as goal

-- what the code read is the node's bit
bit_read : (marked : List Bool) (v : ℕ) (b : Bool) → 0 < v → v ≤ length marked → b ≡ get_or marked (v - 1) b → is_marked marked v ≡ b
bit_read marked v b h l read =
    is_marked-get_or marked v h ∙ sym (get_or_read marked (v - 1) b (omega arith) read false)

pub push_back_reserved-requires : goal.push_back_reserved-requires
push_back_reserved-requires c =
    let nodes = ap (λ o. o.nodes) c.self.view_is in
    let clear = bit_read c.self.inside.marked.items c.args.node c.index.result.now (omega arith) (omega (arith, c.self.inside.marked.ok.0)) c.index.ensures ∙ c.if-not-index.true in
    let room = has_room _ _ _ c.self.invariant c.args.node (omega arith) (omega (arith, c.self.inside.marked.ok.0)) clear in
    omega (arith, room, c.self.inside.queue.ok)

pub invariant_of-self : goal.invariant_of-self
invariant_of-self c =
    let nodes = ap (λ o. o.nodes) c.self.view_is in
    let clear = bit_read c.self.inside.marked.items c.args.node c.index.result.now (omega arith) (omega (arith, c.self.inside.marked.ok.0)) c.index.ensures ∙ c.if-not-index.true in
    rw (c.push_back_reserved.ensures.capacity, c.push_back_reserved.ensures.items)
    (IsWorklist-push _ _ _ c.self.invariant c.args.node (omega arith) (omega (arith, c.self.inside.marked.ok.0)) clear)

pub returns-then-not-index-clause-again : goal.returns-then-not-index-clause-again
returns-then-not-index-clause-again c = λ h.
    let nodes = ap (λ o. o.nodes) c.self.view_is in
    let clear = bit_read c.self.inside.marked.items c.args.node c.index.result.now (omega arith) (omega (arith, c.self.inside.marked.ok.0)) c.index.ensures ∙ c.if-not-index.true in
    let P : List ℕ → Type 0 = λ q. Contains q c.args.node in
    absurd (clear-absent _ _ _ c.self.invariant c.args.node clear (subst P (sym (ap (λ o. o.waiting) c.self.view_is)) h))

pub returns-else-not-index-clause-fresh : goal.returns-else-not-index-clause-fresh
returns-else-not-index-clause-fresh c = λ h.
    let nodes = ap (λ o. o.nodes) c.self.view_is in
    let there = bit_read c.self.inside.marked.items c.args.node c.index.result.now (omega arith) (omega (arith, c.self.inside.marked.ok.0)) c.index.ensures ∙ c.if-not-index.false in
    let P : List ℕ → Type 0 = λ q. Contains q c.args.node in
    absurd (h (subst P (ap (λ o. o.waiting) c.self.view_is) (marked-contains _ _ _ c.self.invariant c.args.node there)))

pub returns-else-not-index-clause-inside : goal.returns-else-not-index-clause-inside
returns-else-not-index-clause-inside c =
    let nodes = ap (λ o. o.nodes) c.self.view_is in
    let there = bit_read c.self.inside.marked.items c.args.node c.index.result.now (omega arith) (omega (arith, c.self.inside.marked.ok.0)) c.index.ensures ∙ c.if-not-index.false in
    let P : List ℕ → Type 0 = λ q. Contains q c.args.node in
    subst P (ap (λ o. o.waiting) c.self.view_is) (marked-contains _ _ _ c.self.invariant c.args.node there)

pub returns-then-not-index-clause-only : goal.returns-then-not-index-clause-only
returns-then-not-index-clause-only c = λ v there.
    let now = rw c.push_back_reserved.ensures.items at there in
    let P : List ℕ → Type 0 = λ q. Contains q v in
    elim (Contains-push_cases c.self.inside.queue.items c.args.node v now) [
      | inl old ↦ inl (subst P (ap (λ o. o.waiting) c.self.view_is) old)
      | inr new ↦ inr (sym new)
    ]
