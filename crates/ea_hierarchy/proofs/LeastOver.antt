-- The least of a number and of those at places.
use Rattle.std.proofs.Common.{◌≡◌, ℕ, zero, suc, ◌+◌, ◌<◌, ◌≤◌, ◌⊎◌, inl, inr, refl, ap, arith}
use Rattle.std.proofs.lemmas.Bool.Decides.{leb_tells}
use Rattle.ea_hierarchy.specs.Potentials.{least_over}

pub least_to_base : (of : ℕ → ℕ) (base first count : ℕ) → least_over of base first count ≤ base
least_to_base of base first zero = omega arith
least_to_base of base first (suc count) = omega (arith, least_to_base of base first count)

pub least_to_each : (of : ℕ → ℕ) (base first count k : ℕ) → k < count → least_over of base first count ≤ of (first + k)
least_to_each of base first zero k inside = absurd (omega arith)
least_to_each of base first (suc count) k inside = elim (leb_tells count k) [
  | inl last ↦ let same : of (first + k) ≡ of (first + count) = ap (λ n. of (first + n)) (omega (arith, last.1, inside)) in omega (arith, same)
  | inr before ↦ omega (arith, least_to_each of base first count k before.1)
]

pub least_is_one : (of : ℕ → ℕ) (base first count : ℕ) → (least_over of base first count ≡ base) ⊎ ((k : ℕ) × (k < count) × (least_over of base first count ≡ of (first + k)))
least_is_one of base first zero = inl refl
least_is_one of base first (suc count) = elim (leb_tells (least_over of base first count) (of (first + count))) [
  | inl stays ↦ elim (least_is_one of base first count) [
    | inl is ↦ inl (omega (arith, stays.1, is))
    | inr found ↦ inr (found.0, omega (arith, found.1), omega (arith, stays.1, found.2))
  ]
  | inr falls ↦ inr (count, omega arith, omega (arith, falls.1))
]

pub least_same : (of other : ℕ → ℕ) (base first count : ℕ) → ((k : ℕ) → k < count → of (first + k) ≡ other (first + k)) → least_over of base first count ≡ least_over other base first count
least_same of other base first zero same = refl
least_same of other base first (suc count) same =
    let before = least_same of other base first count (λ k inside. same k (omega (arith, inside))) in
    omega (arith, before, same count (omega arith))
