-- The elements of a list by place, and what holds of some member.
use Rattle.std.proofs.Common.{◌≡◌, ℕ, zero, suc, ◌<◌, List, [], ◌∷◌, ◌++◌, length, get_or, set, sym, refl, ap, ◌∙◌, subst, arith}
use Rattle.std.specs.Prelude.{All, Any, Contains}
use Rattle.std.proofs.lemmas.List.Elements.{Contains-get_or}
use mathlib.Core.Option.{some, some-injective, some-ne-none}
use mathlib.Core.Logic.{dite}
use native.Mathlib.Decide.{ℕ_discrete}
use lib.ListN.{get_elem?}
use Rattle.atomic_table.proofs.Lists.{at_index, set_here, set_else, at_longer}

module _ {A : Type 0} where
  pub inside : (xs : List A) (i : ℕ) (x : A) → get_elem? xs i ≡ some x → i < length xs
  inside [] i x e = absurd (some-ne-none x (sym e))
  inside (y ∷ ys) zero x e = omega arith
  inside (y ∷ ys) (suc i) x e = let h = inside ys i x e in omega arith

  pub value_at : (xs : List A) (i : ℕ) (x d : A) → get_elem? xs i ≡ some x → get_or xs i d ≡ x
  value_at [] i x d e = absurd (some-ne-none x (sym e))
  value_at (y ∷ ys) zero x d e = some-injective y x e
  value_at (y ∷ ys) (suc i) x d e = value_at ys i x d e

  pub at_value : (xs : List A) (i : ℕ) (d : A) → i < length xs → get_elem? xs i ≡ some (get_or xs i d)
  at_value [] i d h = absurd (omega arith)
  at_value (y ∷ ys) zero d h = refl
  at_value (y ∷ ys) (suc i) d h = at_value ys i d (omega arith)

  -- if the default weighs nothing, a place with a weight is inside
  pub at_weighed : (f : A → ℕ) (xs : List A) (i : ℕ) (d : A) → f d ≡ 0 → 0 < f (get_or xs i d) → get_elem? xs i ≡ some (get_or xs i d)
  at_weighed f [] i d light heavy = absurd (omega arith)
  at_weighed f (y ∷ ys) zero d light heavy = refl
  at_weighed f (y ∷ ys) (suc i) d light heavy = at_weighed f ys i d light heavy

  pub same_at : (xs : List A) (i j : ℕ) (x y : A) → get_elem? xs i ≡ some x → get_elem? xs j ≡ some y → i ≡ j → x ≡ y
  same_at xs i j x y at_i at_j e = some-injective x y (sym at_i ∙ (ap (λ k. get_elem? xs k) e ∙ at_j))

  pub All_at : (P : A → Type 0) (xs : List A) (i : ℕ) (x : A) → All P xs → get_elem? xs i ≡ some x → P x
  All_at P xs i x h e = subst P (value_at xs i x x e) (h i x (inside xs i x e))

  pub contains_at : (xs : List A) (i : ℕ) (x : A) → get_elem? xs i ≡ some x → Contains xs x
  contains_at xs i x e = subst (Contains xs) (value_at xs i x x e) (Contains-get_or xs i x (inside xs i x e))

  pub Any_at : (P : A → Type 0) (xs : List A) → Any P xs → (i : ℕ) × (x : A) × (get_elem? xs i ≡ some x) × P x
  Any_at P xs h = (h.0, h.1, at_index xs h.0 h.1 h.2 (sym h.3), h.4)

  pub at_Any : (P : A → Type 0) (xs : List A) (i : ℕ) (x : A) → get_elem? xs i ≡ some x → P x → Any P xs
  at_Any P xs i x e p = (i, x, inside xs i x e, value_at xs i x x e, p)

  pub Any_head : (P : A → Type 0) (x : A) (xs : List A) → P x → Any P (x ∷ xs)
  Any_head P x xs p = at_Any P (x ∷ xs) 0 x refl p

  pub Any_tail : (P : A → Type 0) (x : A) (xs : List A) → Any P xs → Any P (x ∷ xs)
  Any_tail P x xs h = let a = Any_at P xs h in at_Any P (x ∷ xs) (suc a.0) a.1 a.2 a.3

  pub Any_left : (P : A → Type 0) (xs ys : List A) → Any P xs → Any P (xs ++ ys)
  Any_left P xs ys h = let a = Any_at P xs h in at_Any P (xs ++ ys) a.0 a.1 (at_longer xs ys a.0 a.1 a.2) a.3

  pub Any_right : (P : A → Type 0) (xs ys : List A) → Any P ys → Any P (xs ++ ys)
  Any_right P [] ys h = h
  Any_right P (x ∷ xs) ys h = Any_tail P x (xs ++ ys) (Any_right P xs ys h)

  pub Any_set : (P : A → Type 0) (xs : List A) (i : ℕ) (v w : A) → get_elem? xs i ≡ some v → (P v → P w) → Any P xs → Any P (set xs i w)
  Any_set P xs i v w at change h = let a = Any_at P xs h in dite (ℕ_discrete a.0 i)
      (λ e. at_Any P (set xs i w) i w (set_here xs i w (inside xs i v at)) (change (subst P (same_at xs a.0 i a.1 v a.2 at e) a.3)))
      (λ ne. at_Any P (set xs i w) a.0 a.1 (set_else xs i a.0 w ne ∙ a.2) a.3)
