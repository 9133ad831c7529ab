use Rattle.std.proofs.Common.{rules, ◌≡◌, ℕ, List, [], ◌∷◌, ◌++◌, subst, Contains, ap, inl, inr, arith, sym, ◌∙◌}
use Rattle.std.proofs.lemmas.List.Elements.{Contains-append_left}
use Rattle.ea_search.specs.declared.link.Link.{Link}
use Rattle.ea_search.specs.Links.{link}
use Rattle.ea_paths.specs.Replayed.{IsReachedAgain}
use Rattle.ea_paths.proofs.Linkings.{link_read}
use Rattle.ea_paths.proofs.Replayings.{Contains-two, IsReachedAgain-kept}
use Rattle.ea_paths.proofs.log_replay.tie.Goals as goal

pub returns-then-old-eq0 : goal.returns-then-old-eq0
returns-then-old-eq0 c = record {
  places = search rules;
  done = λ yes.
      let read = ap (λ (l : Link). l.level) (link_read c.args.links.now c.args.node c.requires.place.is_node.from_one (omega arith)) in
      IsReachedAgain-kept c.args.network.now c.args.node c.args.new _ _ _ _ (λ room better. elim better [ inl less ↦ omega arith | inr same ↦ omega (arith, same.0) ]) (λ v there. there) (inl (omega arith));
}

pub relevel-requires-clause-node : goal.relevel-requires-clause-node
relevel-requires-clause-node c = record {
  place = c.requires.place;
  level = λ none. c.if-old-eq0.false (ap (λ (l : Link). l.level) (link_read c.args.links.now c.args.node c.requires.place.is_node.from_one (omega arith)) ∙ none);
}

pub relevel-requires-clause-same : goal.relevel-requires-clause-same
relevel-requires-clause-same c =
    let read = link_read c.args.links.now c.args.node c.requires.place.is_node.from_one (omega arith) in
    (sym (ap (λ (l : Link). l.from) read) ∙ c.if-old-new.true, sym (ap (λ (l : Link). l.arc) read) ∙ c.if-old-new-2.true)

pub returns-then-old-new-2 : goal.returns-then-old-new-2
returns-then-old-new-2 c = record {
  places = c.relevel.ensures.kept.places;
  done = λ yes. c.relevel.ensures.reached yes c.args.network.now;
}

pub choose-requires : goal.choose-requires
choose-requires c = record {
  place = c.requires.place;
  level = λ none. c.if-old-eq0.false (ap (λ (l : Link). l.level) (link_read c.args.links.now c.args.node c.requires.place.is_node.from_one (omega arith)) ∙ none);
}

pub returns : goal.returns
returns c = record {
  places = c.choose.ensures.kept.places;
  done = λ yes.
      let ties = c.args.ties.now.list.items in
      let node = c.args.node in
      let new : ℕ × ℕ = (node, c.args.new.from) in
      let old : Link = link c.args.links.now node in
      let read = ap (λ (l : Link). ties ++ new ∷ (node, l.from) ∷ []) (link_read c.args.links.now node c.requires.place.is_node.from_one (omega arith)) in
      let pushed : c.tie.new.self.list.items ≡ ties ++ new ∷ (node, old.from) ∷ [] = c.tie.ensures c.if-not-tie.false ∙ read in
      let P : List (ℕ × ℕ) → Type 0 = λ xs. (tie : ℕ × ℕ) → Contains ties tie → Contains xs tie in
      let Q : ℕ × ℕ → List (ℕ × ℕ) → Type 0 = λ tie xs. Contains xs tie in
      let both = Contains-two ties new (node, old.from) in
      let R : List (ℕ × ℕ) → Type 0 = λ xs. IsReachedAgain c.args.network.now node c.args.new c.args.links.now c.args.waiting.now.waiting ties c.choose.new.links c.choose.new.waiting.waiting xs in
      subst R (sym c.choose.ensures.kept.list) (c.choose.ensures.reached yes ties c.tie.new.self.list.items (subst P (sym pushed) (Contains-append_left ties (new ∷ (node, old.from) ∷ []))) (subst (Q new) (sym pushed) both.0) (subst (Q (node, old.from)) (sym pushed) both.1));
}
