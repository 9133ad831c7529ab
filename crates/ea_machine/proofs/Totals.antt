-- Totals, and the places of their lists.
use Rattle.std.proofs.Common.{◌≡◌, ◌≢◌, ℕ, zero, suc, ◌+◌, ◌<◌, ◌≤◌, List, [], ◌∷◌, ◌++◌, map, set, length, get_or, sym, refl, ap, arith}
use Rattle.std.specs.Prelude.{Any}
use Rattle.std.specs.List.{sum_by}
use Rattle.std.specs.List.Sorted.{IsPermutation}
use Rattle.std.proofs.lemmas.List.Sums.{sum_by-cons}
use Rattle.std.proofs.lemmas.List.Sorted.{sum_by-IsPermutation}
use mathlib.Core.Logic.{dite}
use native.Mathlib.Decide.{ℕ_discrete}
use mathlib.Core.Option.{some, some-injective, some-ne-none}
use lib.ListN.{get_elem?}
use Rattle.ea_machine.specs.Totals.{total}
use Rattle.ea_machine.proofs.Places.{Any_head, Any_tail, at_value}

module _ {A : Type 0} (f : A → ℕ) where
  pub total_is_sum : {R : Type 0} (g : R → A) (xs : List R) → total f (map g xs) ≡ sum_by (λ r. f (g r)) xs
  total_is_sum g [] = refl
  total_is_sum g (x ∷ xs) = omega (arith, total_is_sum g xs, sum_by-cons (λ r. f (g r)) x xs)

  -- a permutation weighs the same
  pub total_permuted : {R : Type 0} (g : R → A) (xs ys : List R) → IsPermutation xs ys → total f (map g xs) ≡ total f (map g ys)
  total_permuted g xs ys p = omega (arith, total_is_sum g xs, total_is_sum g ys, sum_by-IsPermutation (λ r. f (g r)) xs ys p)

  pub total-map : {R : Type 0} (g : R → A) (xs : List R) → total f (map g xs) ≡ total (λ r. f (g r)) xs
  total-map g [] = refl
  total-map g (x ∷ xs) = omega (arith, total-map g xs)

  pub total-append : (l m : List A) → total f (l ++ m) ≡ total f l + total f m
  total-append [] m = omega arith
  total-append (x ∷ xs) m = omega (arith, total-append xs m)

  pub total-set : (l : List A) (j : ℕ) (v w : A) → get_elem? l j ≡ some v → total f (set l j w) + f v ≡ total f l + f w
  total-set [] j v w e = absurd (some-ne-none v (sym e))
  total-set (x ∷ xs) zero v w e = omega (arith, ap f (some-injective x v e))
  total-set (x ∷ xs) (suc j) v w e = omega (arith, total-set xs j v w e)

  -- the same for a place inside
  pub total_set_at : (l : List A) (j : ℕ) (w : A) → j < length l → total f (set l j w) + f (get_or l j w) ≡ total f l + f w
  total_set_at l j w h = total-set l j (get_or l j w) w (at_value l j w h)

  pub term_le : (l : List A) (j : ℕ) (v : A) → get_elem? l j ≡ some v → f v ≤ total f l
  term_le [] j v e = absurd (some-ne-none v (sym e))
  term_le (x ∷ xs) zero v e = omega (arith, ap f (some-injective x v e))
  term_le (x ∷ xs) (suc j) v e = omega (arith, term_le xs j v e)

  pub terms_le : (l : List A) (j k : ℕ) (v u : A) → k ≢ j → get_elem? l j ≡ some v → get_elem? l k ≡ some u → f v + f u ≤ total f l
  terms_le [] j k v u n e d = absurd (some-ne-none v (sym e))
  terms_le (x ∷ xs) zero zero v u n e d = absurd (n refl)
  terms_le (x ∷ xs) zero (suc k) v u n e d = omega (arith, ap f (some-injective x v e), term_le xs k u d)
  terms_le (x ∷ xs) (suc j) zero v u n e d = omega (arith, ap f (some-injective x u d), term_le xs j v e)
  terms_le (x ∷ xs) (suc j) (suc k) v u n e d = omega (arith, terms_le xs j k v u (λ h. n (ap suc h)) e d)

  -- if there is weight, some member has some
  pub some_weighs : (xs : List A) → 0 < total f xs → Any (λ x. 0 < f x) xs
  some_weighs [] h = absurd (omega arith)
  some_weighs (x ∷ xs) h = dite (ℕ_discrete (f x) 0)
      (λ e. Any_tail (λ y. 0 < f y) x xs (some_weighs xs (omega arith)))
      (λ ne. Any_head (λ y. 0 < f y) x xs (omega arith))

  -- if the members with no g weigh nothing
  pub total_none : (g : A → ℕ) (l : List A) → total g l ≡ 0 → ((j : ℕ) (b : A) → get_elem? l j ≡ some b → g b ≡ 0 → f b ≡ 0) → total f l ≡ 0
  total_none g [] z none = refl
  total_none g (x ∷ xs) z none = omega (arith, none 0 x refl (omega arith), total_none g xs (omega arith) (λ j b e. none (suc j) b e))

-- if one member has all of g, and those with none weigh nothing, it has all the weight
pub total_alone : {A : Type 0} (f g : A → ℕ) (l : List A) (i : ℕ) (a : A) → get_elem? l i ≡ some a → total g l ≡ g a → ((j : ℕ) (b : A) → get_elem? l j ≡ some b → g b ≡ 0 → f b ≡ 0) → total f l ≡ f a
total_alone f g [] i a e one none = absurd (some-ne-none a (sym e))
total_alone f g (x ∷ xs) zero a e one none =
    let same : x ≡ a = some-injective x a e in
    omega (arith, ap f same, total_none f g xs (omega (arith, ap g same)) (λ j b e. none (suc j) b e))
total_alone f g (x ∷ xs) (suc i) a e one none =
    let here : g a ≤ total g xs = term_le g xs i a e in
    omega (arith, none 0 x refl (omega arith), total_alone f g xs i a e (omega arith) (λ j b e. none (suc j) b e))
