use Rattle.std.proofs.Common.{◌≡◌, ◌≢◌, ℕ, ◌-◌, ◌<◌, set, inl, inr, refl, subst, sym, ◌∙◌, ap, arith}
use Rattle.std.proofs.lemmas.Bool.{cases_eq}
use Rattle.ea_search.specs.Underway.{bound_of}
use Rattle.ea_search.proofs.Entries.{bound_of-set_same, bound_of-set_other, is_other, KeepsLess-falls, KeepsLess-stays}
use Rattle.ea_search.proofs.Steps.{KeepsSearch-falls, KeepsSearch-meets, KeepsSearch-same}
use Rattle.ea_search.proofs.finishing_pass.lower.Goals as goal

pub returns-then-time-before-clause-offered : goal.returns-then-time-before-clause-offered
returns-then-time-before-clause-offered g c =
    let node = c.args.node in
    let table = g.L.Table.labels c.args.table.now in
    let after = set table (node - 1) c.args.time in
    let is_node = c.requires.can_fall.is_node in
    let sets = c.fall.ensures.sets.labels in
    let notes = c.fall.ensures.notes in
    let less : c.args.time < bound_of table node = omega (arith, c.label-before.ensures, c.if-time-before.true) in
    let here : bound_of after node ≡ c.args.time = bound_of-set_same table node c.args.time is_node.0 is_node.1 in
    let other : (w : ℕ) → bound_of (g.L.Table.labels c.fall.new.self) w ≡ bound_of table w → w ≢ node = λ w same. is_other table _ node c.args.time w sets is_node.0 is_node.1 less same in
    record {
      lowers = rw sets (KeepsLess-falls table _ _ node c.args.time is_node.0 is_node.1 less (c.open.ensures.opened (bound_of after) here)
          (λ other before. elim (cases_eq other node) [
            | inl is ↦ (
                let P : ℕ → Type 0 = λ v. g.W.Opens.waits c.open.new.self (bound_of after) v in
                subst P (sym is) (c.open.ensures.opened (bound_of after) here))
            | inr differs ↦ c.open.ensures.kept (bound_of table) (bound_of after) other (bound_of-set_other table node other c.args.time is_node.0 differs) before
          ]));
      meets = λ same. notes.meets;
      still = λ v u k same_v same_u met. notes.still v u k (other v same_v) (other u same_u) met;
      adds = λ v u k had. elim (notes.adds v u k had) [
        | inl new ↦ inr (new, ap (λ xs. bound_of xs node) sets ∙ here)
        | inr old ↦ inl (ap (λ xs. bound_of xs v) sets ∙ bound_of-set_other table node v c.args.time is_node.0 old.0, old.1)
      ];
    }

pub returns-then-time-before-clause-keeps : goal.returns-then-time-before-clause-keeps
returns-then-time-before-clause-keeps g c =
    KeepsSearch-falls _ _ _ _ _ _ _ _ c.args.node c.args.time c.requires.can_fall (omega (arith, c.label-before.ensures, c.if-time-before.true)) c.fall.ensures.sets c.open.ensures.room c.open.ensures.size

pub returns-then-time-before-2-clause-offered : goal.returns-then-time-before-2-clause-offered
returns-then-time-before-2-clause-offered g c =
    let notes = c.meet.ensures.notes in
    let at = c.label-before.ensures in
    record {
      lowers = rw c.meet.ensures.labels (KeepsLess-stays _ _ _ _ (omega (arith, at, c.if-time-before.false)));
      meets = λ same. notes.meets;
      still = λ v u k same_v same_u met. notes.still v u k met;
      adds = λ v u k had. elim (notes.adds v u k had) [
        | inl new ↦ inr (new, ap (λ xs. bound_of xs c.args.node) c.meet.ensures.labels ∙ omega (arith, at, c.if-time-before-2.true))
        | inr old ↦ inl (ap (λ xs. bound_of xs v) c.meet.ensures.labels, old)
      ];
    }

pub returns-then-time-before-2-clause-keeps : goal.returns-then-time-before-2-clause-keeps
returns-then-time-before-2-clause-keeps g c = KeepsSearch-meets _ _ _ _ _ _ c.meet.ensures.labels c.meet.ensures.kept

pub returns-else-time-before-2-clause-offered : goal.returns-else-time-before-2-clause-offered
returns-else-time-before-2-clause-offered g c =
    let at = c.label-before.ensures in
    record {
      lowers = KeepsLess-stays _ _ _ _ (omega (arith, at, c.if-time-before.false));
      meets = λ same. absurd (omega (arith, at, same, c.if-time-before-2.false));
      still = λ v u k same_v same_u met. met;
      adds = λ v u k had. inl (refl, had);
    }

pub returns-else-time-before-2-clause-keeps : goal.returns-else-time-before-2-clause-keeps
returns-else-time-before-2-clause-keeps g c = KeepsSearch-same _ _ _ _
