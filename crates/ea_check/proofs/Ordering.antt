-- Sources, sorted by node and departure.
use Rattle.std.proofs.Common.{◌≡◌, ◌≢◌, ◌∙◌, refl, ℕ, zero, suc, ◌+◌, ◌-◌, ◌<◌, ◌≤◌, Bool, true, false, cond, List, length, get_or, ◌⊎◌, inl, inr, arith, sym, subst, nat_cmp, is_lt, Less, Equal, Greater, eqb-true}
use Rattle.std.proofs.lemmas.Bool.{ltb-false, eqb-false, false≢true}
use Rattle.std.proofs.lemmas.List.{get_or_default}
use Rattle.std.proofs.lemmas.Map.Keys.{ge_from_not_lt}
use Rattle.std.proofs.lemmas.List.Sorted.{Contains-permutation, IsPermutation-sym}
use Rattle.std.specs.Prelude.{nat_lt, ◌==◌}
use Rattle.std.specs.List.{IsAmong, Contains}
use Rattle.std.specs.List.Sorted.{IsPermutation}
use Rattle.std.specs.Ordering.{ordering_then}
use Rattle.ea_road.specs.declared.source.Source.{Source}
use Rattle.ea_check.specs.Starts.{AreOrdered, Precedes}

in_turn : (a b c d : ℕ) → is_lt (ordering_then (nat_cmp a b) (nat_cmp c d)) ≡ false → (b < a) ⊎ ((b ≡ a) × (d ≤ c))
in_turn a b c d test = by_tests (nat_lt a b) (a == b) refl refl test
  where
    by_tests : (less same : Bool) → nat_lt a b ≡ less → (a == b) ≡ same → is_lt (ordering_then (cond less Less (cond same Equal Greater)) (nat_cmp c d)) ≡ false → (b < a) ⊎ ((b ≡ a) × (d ≤ c))
    by_tests true same p q t = absurd (false≢true (sym t))
    by_tests false true p q t = inr (sym (eqb-true a b q), ge_from_not_lt c d t)
    by_tests false false p q t = inl (let low = ltb-false a b p in let differs : a ≢ b = eqb-false a b q in omega arith)

Precedes-trans : (first second third : Source) → Precedes first second → Precedes second third → Precedes first third
Precedes-trans first second third (inl p) (inl q) = inl (omega arith)
Precedes-trans first second third (inl p) (inr q) = inl (omega (arith, q.0))
Precedes-trans first second third (inr p) (inl q) = inl (omega (arith, p.0))
Precedes-trans first second third (inr p) (inr q) = inr (p.0 ∙ q.0, omega (arith, p.1, q.1))

module _ (ordered : List Source) (next : (place : ℕ) (default : Source) → place + 1 < length ordered → Precedes (get_or ordered place default) (get_or ordered (place + 1) default)) where
  further : (more place : ℕ) (default : Source) → place + more < length ordered → Precedes (get_or ordered place default) (get_or ordered (place + more) default)
  further zero place default inside =
      let same : place + 0 ≡ place = omega arith in
      rw same (inr (refl, omega arith))
  further (suc more) place default inside =
      let same : place + suc more ≡ place + more + 1 = omega arith in
      rw same (Precedes-trans _ _ _ (further more place default (omega arith)) (next (place + more) default (omega arith)))

  in_order : (place later : ℕ) (default : Source) → place ≤ later → later < length ordered → Precedes (get_or ordered place default) (get_or ordered later default)
  in_order place later default low inside =
      let same : place + (later - place) ≡ later = omega arith in
      subst (λ n. Precedes (get_or ordered place default) (get_or ordered n default)) same (further (later - place) place default (omega arith))

among_moved : (xs ys : List Source) (source : Source) → IsPermutation xs ys → IsAmong xs source → IsAmong ys source
among_moved xs ys source moved among =
    let there : Contains xs source = (among.0, among.1.0, sym among.1.1) in
    let at = Contains-permutation xs ys source moved there in
    (at.0, (at.1, sym at.2))

pub are_ordered : (sources copied ordered : List Source) → copied ≡ sources → IsPermutation copied ordered → ((place : ℕ) (default : Source) → 0 ≤ place → place + 1 < length ordered → is_lt (ordering_then (nat_cmp (get_or ordered (place + 1) default).node (get_or ordered place default).node) (nat_cmp (get_or ordered (place + 1) default).departure (get_or ordered place default).departure)) ≡ false) → AreOrdered sources ordered
are_ordered sources copied ordered same moved sorted = record {
  in_order = in_order ordered (λ place default inside. in_turn _ _ _ _ (sorted place default (omega arith) inside));
  there = λ source among. among_moved copied ordered source moved (subst (λ (xs : List Source). IsAmong xs source) (sym same) among);
  back = λ source among. subst (λ (xs : List Source). IsAmong xs source) same (among_moved ordered copied source (IsPermutation-sym copied ordered moved) among);
}

-- places before a source that is too early, and the source itself, are out
pub none_before : (sources ordered : List Source) (low high middle : ℕ) (default : Source) (P : Source → Type 0) → AreOrdered sources ordered → middle < length ordered → ((place : ℕ) (source : Source) → (place < low) ⊎ (high ≤ place) → place < length ordered → P (get_or ordered place source) → ⊥) → ((other : Source) → Precedes other (get_or ordered middle default) → P other → ⊥) → (place : ℕ) (source : Source) → (place < middle + 1) ⊎ (high ≤ place) → place < length ordered → P (get_or ordered place source) → ⊥
none_before sources ordered low high middle default P are inside none before place source (inl less) within holds =
    let same = get_or_default ordered place source default within in
    before (get_or ordered place default) (are.in_order place middle default (omega arith) inside) (subst P same holds)
none_before sources ordered low high middle default P are inside none before place source (inr beyond) within holds = none place source (inr beyond) within holds

pub none_behind : (sources ordered : List Source) (low high middle : ℕ) (default : Source) (P : Source → Type 0) → AreOrdered sources ordered → ((place : ℕ) (source : Source) → (place < low) ⊎ (high ≤ place) → place < length ordered → P (get_or ordered place source) → ⊥) → ((other : Source) → Precedes (get_or ordered middle default) other → P other → ⊥) → (place : ℕ) (source : Source) → (place < low) ⊎ (middle ≤ place) → place < length ordered → P (get_or ordered place source) → ⊥
none_behind sources ordered low high middle default P are none behind place source (inl less) within holds = none place source (inl less) within holds
none_behind sources ordered low high middle default P are none behind place source (inr beyond) within holds =
    let same = get_or_default ordered place source default within in
    behind (get_or ordered place default) (are.in_order middle place default beyond within) (subst P same holds)

-- the source at a place
pub among_ordered : (sources ordered : List Source) (place : ℕ) (default : Source) → AreOrdered sources ordered → place < length ordered → IsAmong sources (get_or ordered place default)
among_ordered sources ordered place default are inside =
    are.back _ (place, (inside, get_or_default ordered place default (get_or ordered place default) inside))
