use Rattle.std.proofs.Common.{◌≡◌, inl, inr, ap, subst, ◌∙◌, List, [], ◌∷◌, ◌++◌, Contains}
use Rattle.std.proofs.lemmas.List.Elements.{Contains-push_cases}
use Rattle.ea_hierarchy.specs.Trimmed.{IsTrimmed}
use Rattle.ea_hierarchy.specs.declared.trimmed.LeftArcs.{LeftArcs}
use Rattle.ea_hierarchy.specs.declared.trimmed.Trimmed.{Trimmed}
use Rattle.ea_hierarchy.proofs.trimmed.Trimmed.add.Goals.{in-Some, in_default}
use Rattle.ea_hierarchy.proofs.trimmed.Trimmed.add.Goals as goal

pub returns : goal.returns
returns c = λ firsts heads numbers are is. record {
  each = λ row there.
      let rows = c.args.self.now.rows.items in
      let here : LeftArcs = record { rank = c.args.rank; links = c.args.links } in
      let same : c.match-get_mut.self.rows.items ≡ rows = elim c.match-get_mut.branch [
        | in-Some w ↦ ap (λ (t : Trimmed). t.rows.items) w.self-is
        | in_default w ↦ ap (λ (t : Trimmed). t.rows.items) w.self-is
      ] in
      let grown : c.push.new.self.items ≡ rows ++ here ∷ [] = c.in_ok-push.ensures.items ∙ ap (λ (xs : List LeftArcs). xs ++ here ∷ []) same in
      elim (Contains-push_cases rows here row (subst (λ (xs : List LeftArcs). Contains xs row) grown there)) [
        | inl was ↦ are.each row was
        | inr new ↦ subst (λ (r : LeftArcs). IsTrimmed firsts heads numbers r.rank r.links.items) new is
      ];
}

pub returns-in_err-push : goal.returns-in_err-push
returns-in_err-push c = λ firsts heads numbers are is. record {
  each = λ row there.
      let rows = c.args.self.now.rows.items in
      let same : c.match-get_mut.self.rows.items ≡ rows = elim c.match-get_mut.branch [
        | in-Some w ↦ ap (λ (t : Trimmed). t.rows.items) w.self-is
        | in_default w ↦ ap (λ (t : Trimmed). t.rows.items) w.self-is
      ] in
      are.each row (subst (λ (xs : List LeftArcs). Contains xs row) (c.in_err-push.ensures.items ∙ same) there);
}
