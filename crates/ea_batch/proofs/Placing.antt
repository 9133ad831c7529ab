-- Lists in which one element is set.
use Rattle.std.proofs.Common.{◌≡◌, ℕ, ◌+◌, ◌-◌, ◌<◌, ◌≤◌, Bool, true, false, List, [], ◌∷◌, ◌++◌, length, get_or, set, inl, inr, sym, subst, arith, length-append}
use Rattle.std.specs.Prelude.{◌≢◌, if◌then◌else◌}
use Rattle.std.proofs.Math.Seq.{get_or-append_seam}
use Rattle.std.proofs.lemmas.Bool.{cases_eq}
use Rattle.std.proofs.lemmas.List.{get_or-set_same, get_or-set_other, length-set, get_or_append_left}

-- What held at each place still does, if it holds of the new element.
pub set_each : {X : Type 0} (P : ℕ → X → Type 0) (xs : List X) (i : ℕ) (y : X) → i < length xs → P i y
    → (j : ℕ) (d : X) → ((j ≡ i → ⊥) → P j (get_or xs j d)) → P j (get_or (set xs i y) j d)
set_each {X} P xs i y inside new j d old = elim (cases_eq j i) [
  | inl same ↦ (
      let Q : ℕ → Type 0 = λ n. P n (get_or (set xs i y) n d) in
      subst Q (sym same) (subst (P i) (sym (get_or-set_same xs i y d inside)) new))
  | inr differs ↦ subst (P j) (sym (get_or-set_other xs i j y d differs)) (old differs)
]

-- What held at each place from this one on still does behind it.
pub set_later : {X : Type 0} (P : ℕ → X → Type 0) (xs : List X) (i : ℕ) (y : X) → i < length xs
    → ((j : ℕ) (d : X) → i ≤ j → j < length xs → P j (get_or xs j d)) → (j : ℕ) (d : X) → i + 1 ≤ j → j < length (set xs i y) → P j (get_or (set xs i y) j d)
set_later P xs i y inside later j d low high =
    subst (P j) (sym (get_or-set_other xs i j y d (λ same. omega (arith, same, low)))) (later j d (omega (arith, low)) (omega (arith, high, length-set xs i y)))

-- What held at each place of a list, counted from a number, still does after an element was appended of which
-- it holds.
pub put_behind : {X : Type 0} (P : ℕ → X → Type 0) (start : ℕ) (xs : List X) (y : X) → ((k : ℕ) (d : X) → k < length xs → P (start + k) (get_or xs k d))
    → P (start + length xs) y → (k : ℕ) (d : X) → k < length (xs ++ y ∷ []) → P (start + k) (get_or (xs ++ y ∷ []) k d)
put_behind {X} P start xs y held new k d inside = elim (cases_eq k (length xs)) [
  | inl same ↦ (
      let Q : ℕ → Type 0 = λ n. P (start + n) (get_or (xs ++ y ∷ []) n d) in
      subst Q (sym same) (subst (P (start + length xs)) (sym (get_or-append_seam xs y [] d)) new))
  | inr differs ↦ (
      let before : k < length xs = omega (arith, inside, length-append xs (y ∷ []), differs) in
      subst (P (start + k)) (sym (get_or_append_left xs (y ∷ []) d k before)) (held k d before))
]

-- The same if it is appended only if memory suffices.
pub put_if : {X : Type 0} (P : ℕ → X → Type 0) (start : ℕ) (xs after : List X) (y : X) (is_put : Bool) → ((k : ℕ) (d : X) → k < length xs → P (start + k) (get_or xs k d))
    → P (start + length xs) y → after ≡ (if is_put then xs ++ y ∷ [] else xs) → (k : ℕ) (d : X) → k < length after → P (start + k) (get_or after k d)
put_if {X} P start xs after y true held new is =
    subst (λ (zs : List X). (k : ℕ) (d : X) → k < length zs → P (start + k) (get_or zs k d)) (sym is) (put_behind P start xs y held new)
put_if {X} P start xs after y false held new is =
    subst (λ (zs : List X). (k : ℕ) (d : X) → k < length zs → P (start + k) (get_or zs k d)) (sym is) held

-- What held of each element still does after one was removed and replaced by the last.
pub taken_out : {X : Type 0} (P : X → Type 0) (xs after : List X) (i n : ℕ) → n ≡ length xs → length after + 1 ≡ n
    → ((d : X) → i + 1 < n → get_or after i d ≡ get_or xs (n - 1) d) × ((k : ℕ) (d : X) → k ≢ i → k + 1 < n → get_or after k d ≡ get_or xs k d)
    → ((k : ℕ) (d : X) → k < length xs → P (get_or xs k d)) → (k : ℕ) (d : X) → k < length after → P (get_or after k d)
taken_out {X} P xs after i n all less by held k d inside = elim (cases_eq k i) [
  | inl same ↦ (
      let last = by.0 d (omega (arith, inside, less, same)) in
      let Q : ℕ → Type 0 = λ m. P (get_or after m d) in
      subst Q (sym same) (subst P (sym last) (held (n - 1) d (omega (arith, all, less)))))
  | inr differs ↦ subst P (sym (by.1 k d differs (omega (arith, inside, less)))) (held k d (omega (arith, inside, all, less)))
]
