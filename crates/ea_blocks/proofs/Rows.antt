-- Rows whose elements all have a property.
use Rattle.std.proofs.Common.{◌≡◌, ◌≢◌, ◌⊎◌, inl, inr, refl, ap, sym, subst, ◌∙◌, ℕ, zero, suc, ◌+◌, ◌-◌, ◌<◌, ◌≤◌, List, [], ◌∷◌, ◌++◌, length, get_or, set, arith}

abbrev pub Each : {A : Type 0} → (A → Type 0) → List A → Type 0
Each {A} P xs = (i : ℕ) (d : A) → i < length xs → P (get_or xs i d)

pub each_appended : {A : Type 0} (P : A → Type 0) (xs ys : List A) → Each P xs → Each P ys → (i : ℕ) (d : A) → i < length (xs ++ ys) → P (get_or (xs ++ ys) i d)
each_appended P [] ys f h i d lt = h i d lt
each_appended P (x ∷ xs) ys f h zero d lt = f 0 d (omega arith)
each_appended P (x ∷ xs) ys f h (suc i) d lt = each_appended P xs ys (λ j e less. f (suc j) e (omega (arith, less))) h i d (omega (arith, lt))

pub each_one : {A : Type 0} (P : A → Type 0) (x : A) → P x → (i : ℕ) (d : A) → i < length (x ∷ []) → P (get_or (x ∷ []) i d)
each_one P x p zero d lt = p
each_one P x p (suc i) d lt = absurd (omega (arith, lt))

-- The elements up to the one that is replaced.
pub set_front : {A : Type 0} (P : A → Type 0) (xs : List A) (at : ℕ) (y : A) → ((i : ℕ) (d : A) → i < at → P (get_or xs i d)) → P y → at < length xs → (i : ℕ) (d : A) → i < at + 1 → P (get_or (set xs at y) i d)
set_front P [] at y f p inside i d lt = absurd (omega (arith, inside))
set_front P (x ∷ xs) zero y f p inside zero d lt = p
set_front P (x ∷ xs) zero y f p inside (suc i) d lt = absurd (omega (arith, lt))
set_front P (x ∷ xs) (suc at) y f p inside zero d lt = f 0 d (omega arith)
set_front P (x ∷ xs) (suc at) y f p inside (suc i) d lt = set_front P xs at y (λ j e less. f (suc j) e (omega (arith, less))) p (omega (arith, inside)) i d (omega (arith, lt))

-- The elements behind it.
pub set_back : {A : Type 0} (P : A → Type 0) (xs : List A) (at : ℕ) (y : A) → ((i : ℕ) (d : A) → at ≤ i → i < length xs → P (get_or xs i d)) → (i : ℕ) (d : A) → at + 1 ≤ i → i < length (set xs at y) → P (get_or (set xs at y) i d)
set_back P [] at y f i d from lt = absurd (omega (arith, lt))
set_back P (x ∷ xs) zero y f zero d from lt = absurd (omega (arith, from))
set_back P (x ∷ xs) zero y f (suc i) d from lt = f (suc i) d (omega arith) (omega (arith, lt))
set_back P (x ∷ xs) (suc at) y f zero d from lt = absurd (omega (arith, from))
set_back P (x ∷ xs) (suc at) y f (suc i) d from lt = set_back P xs at y (λ j e low less. f (suc j) e (omega (arith, low)) (omega (arith, less))) i d (omega (arith, from)) (omega (arith, lt))

same_or_not : (k i : ℕ) → (k ≡ i) ⊎ (k ≢ i)
same_or_not zero zero = inl refl
same_or_not zero (suc i) = inr (λ e. absurd (omega (arith, e)))
same_or_not (suc k) zero = inr (λ e. absurd (omega (arith, e)))
same_or_not (suc k) (suc i) = elim (same_or_not k i) [
  | inl same ↦ inl (ap suc same)
  | inr other ↦ inr (λ e. other (omega (arith, e)))
]

-- The elements of a row without one, in whose place the last is.
pub each_left : {A : Type 0} (P : A → Type 0) (xs ys : List A) (n index : ℕ) → Each P xs → length xs ≡ n → index < n → length ys + 1 ≡ n
    → ((d : A) → index + 1 < n → get_or ys index d ≡ get_or xs (n - 1) d) × ((k : ℕ) (d : A) → k ≢ index → k + 1 < n → get_or ys k d ≡ get_or xs k d)
    → (k : ℕ) (d : A) → k < length ys → P (get_or ys k d)
each_left P xs ys n index f size inside len by k d lt = elim (same_or_not k index) [
  | inl same ↦ subst P (sym (ap (λ m. get_or ys m d) same ∙ by.0 d (omega (arith, lt, len, same)))) (f (n - 1) d (omega (arith, inside, size)))
  | inr other ↦ subst P (sym (by.1 k d other (omega (arith, lt, len)))) (f k d (omega (arith, lt, len, size)))
]
