use Rattle.std.proofs.Common.{◌≡◌, ◌≢◌, ℕ, ◌-◌, ◌<◌, set, inl, inr, subst, sym, arith}
use Rattle.std.proofs.lemmas.Bool.{cases_eq}
use Rattle.ea_search.specs.Underway.{bound_of}
use Rattle.ea_search.proofs.Entries.{bound_of-set_same, bound_of-set_other, is_other, KeepsLess-falls, KeepsLess-stays}
use Rattle.ea_search.proofs.Steps.{KeepsSearch-falls, KeepsSearch-same}
use Rattle.ea_search.proofs.finishing_pass.start.Goals as goal

pub returns-then-departure-label-clause-lowers : goal.returns-then-departure-label-clause-lowers
returns-then-departure-label-clause-lowers g c =
    let node = c.args.node in
    let table = g.L.Table.labels c.args.table.now in
    let after = set table (node - 1) c.args.departure in
    let is_node = c.requires.can_fall.is_node in
    let here : bound_of after node ≡ c.args.departure = bound_of-set_same table node c.args.departure is_node.0 is_node.1 in
    rw c.start.ensures.sets.labels (KeepsLess-falls table _ _ node c.args.departure is_node.0 is_node.1 (omega (arith, c.label.ensures, c.if-departure-label.true)) (c.open.ensures.opened (bound_of after) here)
    (λ other before. elim (cases_eq other node) [
      | inl is ↦ (
          let P : ℕ → Type 0 = λ v. g.W.Opens.waits c.open.new.self (bound_of after) v in
          subst P (sym is) (c.open.ensures.opened (bound_of after) here))
      | inr differs ↦ c.open.ensures.kept (bound_of table) (bound_of after) other (bound_of-set_other table node other c.args.departure is_node.0 differs) before
    ]))

pub returns-then-departure-label-clause-still : goal.returns-then-departure-label-clause-still
returns-then-departure-label-clause-still g c v u k same_v same_u met =
    let table = g.L.Table.labels c.args.table.now in
    let is_node = c.requires.can_fall.is_node in
    let less : c.args.departure < bound_of table c.args.node = omega (arith, c.label.ensures, c.if-departure-label.true) in
    let other : (w : ℕ) → bound_of (g.L.Table.labels c.start.new.self) w ≡ bound_of table w → w ≢ c.args.node = λ w same. is_other table _ c.args.node c.args.departure w c.start.ensures.sets.labels is_node.0 is_node.1 less same in
    c.start.ensures.notes.still v u k (other v same_v) (other u same_u) met

pub returns-then-departure-label-clause-keeps : goal.returns-then-departure-label-clause-keeps
returns-then-departure-label-clause-keeps g c =
    KeepsSearch-falls _ _ _ _ _ _ _ _ c.args.node c.args.departure c.requires.can_fall (omega (arith, c.label.ensures, c.if-departure-label.true)) c.start.ensures.sets c.open.ensures.room c.open.ensures.size

pub returns-else-departure-label-clause-lowers : goal.returns-else-departure-label-clause-lowers
returns-else-departure-label-clause-lowers g c =
    KeepsLess-stays _ _ _ _ (omega (arith, c.label.ensures, c.if-departure-label.false))

pub returns-else-departure-label-clause-keeps : goal.returns-else-departure-label-clause-keeps
returns-else-departure-label-clause-keeps g c = KeepsSearch-same _ _ _ _
