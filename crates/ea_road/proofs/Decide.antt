-- Decidable facts, and the least number with a decidable property.
use Rattle.std.proofs.Common.{◌≡◌, ℕ, zero, suc, ◌+◌, ◌<◌, ◌≤◌, ◌⊎◌, inl, inr, arith, subst, sym}
use Rattle.std.proofs.lemmas.Bool.Decides.{eqb_tells, leb_tells}

-- a fact or its negation
abbrev pub Decided : Type 0 → Type 0
Decided P = P ⊎ (P → ⊥)

pub decide_both : (P Q : Type 0) → Decided P → (P → Decided Q) → Decided (P × Q)
decide_both P Q (inr fails) also = inr (λ both. fails both.0)
decide_both P Q (inl holds) also = elim (also holds) [ inl too ↦ inl (holds, too) | inr not ↦ inr (λ both. not both.1) ]

pub decide_same : (a b : ℕ) → Decided (a ≡ b)
decide_same a b = elim (eqb_tells a b) [ inl same ↦ inl same.1 | inr other ↦ inr other.1 ]

pub decide_le : (a b : ℕ) → Decided (a ≤ b)
decide_le a b = elim (leb_tells a b) [ inl low ↦ inl low.1 | inr high ↦ inr (λ low. omega (arith, high.1)) ]

pub decide_below : (P : ℕ → Type 0) → ((k : ℕ) → Decided (P k)) → (n : ℕ) → Decided ((k : ℕ) × (k < n) × P k)
decide_below P decide zero = inr (λ found. omega (arith, found.1))
decide_below P decide (suc n) =
    elim (decide_below P decide n) [
      | inl found ↦ inl (found.0, omega (arith, found.1), found.2)
      | inr none ↦ elim (decide n) [
        | inl here ↦ inl (n, omega arith, here)
        | inr not ↦ inr (λ found. elim (eqb_tells found.0 n) [
          | inl same ↦ not (subst P same.1 found.2)
          | inr other ↦ none (found.0, omega (arith, found.1, other.1), found.2)
        ])
      ]
    ]

-- the least number with a decidable property
pub record Least (P : ℕ → Type 0) : Type 0 where
  pub number : ℕ
  pub holds : P number
  pub least : (other : ℕ) → P other → number ≤ other

least_from : (P : ℕ → Type 0) → ((k : ℕ) → Decided (P k)) → (fuel start : ℕ) → ((k : ℕ) → P k → start ≤ k) → P (start + fuel) → Least P
least_from P decide zero start above here =
    let e : start + 0 ≡ start = omega arith in
    record { number = start; holds = subst P e here; least = above }
least_from P decide (suc fuel) start above here =
    elim (decide start) [
      | inl now ↦ record { number = start; holds = now; least = above }
      | inr not ↦
          let e : start + suc fuel ≡ start + 1 + fuel = omega arith in
          least_from P decide fuel (start + 1) (λ k holds. elim (eqb_tells start k) [
            | inl same ↦ absurd (not (subst P (sym same.1) holds))
            | inr other ↦ let low = above k holds in omega (arith, other.1)
          ]) (subst P e here)
    ]

pub least_of : (P : ℕ → Type 0) → ((k : ℕ) → Decided (P k)) → (n : ℕ) → P n → Least P
least_of P decide n here =
    let e : n ≡ 0 + n = omega arith in
    least_from P decide n 0 (λ k holds. omega arith) (subst P e here)
