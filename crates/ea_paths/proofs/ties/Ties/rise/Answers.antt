use Rattle.std.proofs.Common.{◌≡◌, ℕ, List, [], ◌∷◌, ◌++◌, take, get_or, Contains, subst, sym, ap, ◌∙◌, ◌+◌, inl, inr, arith}
use Rattle.std.proofs.lemmas.List.{take_more, take_all}
use Rattle.std.proofs.lemmas.List.Elements.{Contains-push_cases}
use Rattle.ea_paths.specs.Replayed.{AreWoken}
use Rattle.ea_search.specs.Worklist.{Ring}
use Rattle.ea_paths.proofs.ties.Ties.rise.Goals.{then-tie-node+else-not-wake, else-tie-node}
use Rattle.ea_paths.proofs.ties.Ties.rise.Goals as goal

pub loop-tie-preserved : goal.loop-tie-preserved
loop-tie-preserved c =
    let ties = c.deref-tie-items.result.now in
    let place = c.loop-tie.tie-index in
    let tie : ℕ × ℕ = get_or ties place (0, 0) in
    let more : take (place + 1) ties ≡ take place ties ++ tie ∷ [] = take_more ties place (0, 0) c.loop-tie-test.true in
    let before = c.loop-tie.invariant in
    elim c.if-tie-node.branch [
      | then-tie-node+else-not-wake w ↦ record {
        room = ap (λ (r : Ring). r.nodes) w.waiting-is ∙ w.wake.ensures.nodes ∙ before.room;
        kept = λ v there. subst (λ (r : Ring). Contains r.waiting v) (sym w.waiting-is) (w.wake.ensures.kept v (before.kept v there));
        woken = λ u there. elim (Contains-push_cases (take place ties) tie (c.args.node, u) (subst (λ (xs : List (ℕ × ℕ)). Contains xs (c.args.node, u)) more there)) [
          | inl old ↦ subst (λ (r : Ring). Contains r.waiting u) (sym w.waiting-is) (w.wake.ensures.kept u (before.woken u old))
          | inr new ↦ subst (λ (r : Ring). Contains r.waiting u) (sym w.waiting-is) (subst (Contains w.wake.new.self.waiting) (ap (λ (t : ℕ × ℕ). t.1) new) (w.wake.ensures.inside w.if-not-wake.false))
        ];
      }
      | else-tie-node w ↦ record {
        room = ap (λ (r : Ring). r.nodes) w.waiting-is ∙ before.room;
        kept = λ v there. subst (λ (r : Ring). Contains r.waiting v) (sym w.waiting-is) (before.kept v there);
        woken = λ u there. elim (Contains-push_cases (take place ties) tie (c.args.node, u) (subst (λ (xs : List (ℕ × ℕ)). Contains xs (c.args.node, u)) more there)) [
          | inl old ↦ subst (λ (r : Ring). Contains r.waiting u) (sym w.waiting-is) (before.woken u old)
          | inr new ↦ absurd (w.if-tie-node.false (ap (λ (t : ℕ × ℕ). t.0) new))
        ];
      }
    ]

pub returns-clause-woken : goal.returns-clause-woken
returns-clause-woken c =
    let ties = c.args.self.now.list.items in
    let before = c.loop-tie.invariant in
    let all : take c.loop-tie.tie-index ties ≡ ties = take_all c.loop-tie.tie-index ties (omega arith) in
    let P : List (ℕ × ℕ) → Type 0 = λ xs. AreWoken xs c.args.node c.loop-tie.waiting.waiting in
    record {
      room = before.room;
      kept = before.kept;
      woken = λ yes. subst P all (rw c.deref-tie-items.ensures.value at before.woken);
    }
