-- The arcs from which labels are had, while labels fall.
use Rattle.std.proofs.Common.{◌≡◌, ℕ, ◌≤◌, List, sym, subst, inl, inr, arith}
use Rattle.std.proofs.lemmas.Bool.{cases_eq}
use Rattle.ea_base.specs.declared.limits.TheConstants.{HORIZON}
use Rattle.ea_road.specs.Roads.{Roads}
use Rattle.ea_search.specs.Notes.{AreHad, IsHad}
use Rattle.ea_search.specs.Scans.{AddsHad, IsHadAt, IsPlaced, KeepsLess, Step}
use Rattle.ea_search.specs.Underway.{bound_of}

-- a time that was offered lowers no other label
pub KeepsLess-lower : (node time : ℕ) (table table' : List ℕ) (waits waits' : ℕ → Type 0) → KeepsLess node time table waits table' waits' → (v : ℕ) → bound_of table' v ≤ bound_of table v
KeepsLess-lower node time table table' waits waits' lowers v = elim (cases_eq v node) [
  | inl here ↦ rw here (omega (arith, lowers.least))
  | inr ne ↦ (let same = lowers.others v ne in omega arith)
]

module _ (roads : Roads) (answers : ℕ → ℕ → ℕ → ℕ → Type 0) where
  -- a label that stays keeps its arcs
  pub IsHad-still : (table table' : List ℕ) (v u k : ℕ) → bound_of table' v ≡ bound_of table v → bound_of table' u ≤ bound_of table u → IsHad roads answers table v u k → IsHad roads answers table' v u k
  IsHad-still table table' v u k same low had =
      let P : ℕ → Type 0 = λ x. Step roads answers u had.departure had.number v x in
      record { number = had.number; departure = had.departure; placed = had.placed; later = omega (arith, had.later); within = had.within; step = subst P (sym same) had.step }

  pub AreHad-adds : (table table' : List ℕ) (had had' new : ℕ → ℕ → ℕ → Type 0) → ((v : ℕ) → bound_of table' v ≤ bound_of table v) → AddsHad new table had table' had' → ((v u k : ℕ) → new v u k → IsHad roads answers table' v u k) → AreHad roads answers table had → AreHad roads answers table' had'
  AreHad-adds table table' had had' new low adds news before v u k has = elim (adds v u k has) [
    | inl old ↦ IsHad-still table table' v u k old.0 (low u) (before v u k old.1)
    | inr is_new ↦ news v u k is_new
  ]

  -- a label that was lowered by an arc has that arc
  pub had_at : (table table' : List ℕ) (node from place time departure number : ℕ) → IsPlaced roads from place number → bound_of table from ≤ departure → departure ≤ HORIZON → Step roads answers from departure number node time → ((v : ℕ) → bound_of table' v ≤ bound_of table v) → (v u k : ℕ) → IsHadAt node from place time table' v u k → IsHad roads answers table' v u k
  had_at table table' node from place time departure number placed later within step low v u k is =
      let P : ℕ → Type 0 = λ x. Step roads answers from departure number node x in
      let fell = low from in
      let here : IsHad roads answers table' node from place = record { number = number; departure = departure; placed = placed; later = omega (arith, later); within = within; step = subst P (sym is.1) step } in
      let A : ℕ → Type 0 = λ x. IsHad roads answers table' x from place in
      let B : ℕ → Type 0 = λ x. IsHad roads answers table' v x place in
      let C : ℕ → Type 0 = λ x. IsHad roads answers table' v u x in
      subst C (sym is.0.2) (subst B (sym is.0.1) (subst A (sym is.0.0) here))
