-- How a push and a pop change an ascending queue.
use Rattle.std.proofs.Common.{◌≡◌, ◌≢◌, ℕ, suc, ◌+◌, ◌<◌, ◌≤◌, ltb, eqb, lt-ltb, le-ltb, eq-eqb, ne_eqb, cond, List, [], ◌∷◌, Some, None, option_map, refl, ap, ◌∙◌, arith, inl, inr}
use Rattle.std.specs.List.{AllByRecursion}
use Rattle.std.proofs.lemmas.Bool.Decides.{eqb_tells, leb_tells}
use Rattle.ea_machine.specs.Totals.{total}
use Rattle.ea_rank.specs.Ranks.{with_key, without_key, rank_error}

abbrev pub same : ℕ → ℕ → ℕ
same key k = cond (eqb k key) 1 0

abbrev pub less : ℕ → ℕ → ℕ
less key k = cond (ltb k key) 1 0

-- how often the key occurs
abbrev pub many : ℕ → List ℕ → ℕ
many key queue = total (same key) queue

-- how many keys are smaller
abbrev pub fewer : ℕ → List ℕ → ℕ
fewer key queue = total (less key) queue

pub same-yes : (key k : ℕ) → k ≡ key → same key k ≡ 1
same-yes key k e = ap (λ b. cond b 1 0) (eq-eqb k key e)

pub same-no : (key k : ℕ) → k ≢ key → same key k ≡ 0
same-no key k e = ap (λ b. cond b 1 0) (ne_eqb k key e)

pub less-yes : (key k : ℕ) → k < key → less key k ≡ 1
less-yes key k l = ap (λ b. cond b 1 0) (lt-ltb k key l)

pub less-no : (key k : ℕ) → key ≤ k → less key k ≡ 0
less-no key k l = ap (λ b. cond b 1 0) (le-ltb k key l)

-- each key is at most those after it
abbrev pub IsAscending : List ℕ → Type 0
IsAscending [] = Unit {0}
IsAscending (k ∷ ks) = AllByRecursion (λ x. k ≤ x) ks × IsAscending ks

pub total-with_key : (f : ℕ → ℕ) (key : ℕ) (queue : List ℕ) → total f (with_key key queue) ≡ f key + total f queue
total-with_key f key [] = refl
total-with_key f key (k ∷ ks) = elim (leb_tells key k) [
  | inl e ↦ rw e.0 refl
  | inr e ↦ rw e.0 (let more = total-with_key f key ks in omega arith)
]

pub all-with_key : (P : ℕ → Type 0) (key : ℕ) (queue : List ℕ) → P key → AllByRecursion P queue → AllByRecursion P (with_key key queue)
all-with_key P key [] h all = (h, tt)
all-with_key P key (k ∷ ks) h all = elim (leb_tells key k) [
  | inl e ↦ rw e.0 (h, all)
  | inr e ↦ rw e.0 (all.0, all-with_key P key ks h all.1)
]

pub all-without_key : (P : ℕ → Type 0) (key : ℕ) (queue : List ℕ) → AllByRecursion P queue → AllByRecursion P (without_key key queue)
all-without_key P key [] all = tt
all-without_key P key (k ∷ ks) all = elim (eqb_tells k key) [
  | inl e ↦ rw e.0 all.1
  | inr e ↦ rw e.0 (all.0, all-without_key P key ks all.1)
]

above_all : (key k : ℕ) (ks : List ℕ) → key ≤ k → AllByRecursion (λ x. k ≤ x) ks → AllByRecursion (λ x. key ≤ x) ks
above_all key k [] l all = tt
above_all key k (x ∷ xs) l all = (omega (arith, all.0), above_all key k xs l all.1)

pub ascending-with_key : (key : ℕ) (queue : List ℕ) → IsAscending queue → IsAscending (with_key key queue)
ascending-with_key key [] h = (tt, tt)
ascending-with_key key (k ∷ ks) h = elim (leb_tells key k) [
  | inl e ↦ rw e.0 ((e.1, above_all key k ks e.1 h.0), h)
  | inr e ↦ rw e.0 (all-with_key (λ x. k ≤ x) key ks (omega (arith, e.1)) h.0, ascending-with_key key ks h.1)
]

pub ascending-without_key : (key : ℕ) (queue : List ℕ) → IsAscending queue → IsAscending (without_key key queue)
ascending-without_key key [] h = tt
ascending-without_key key (k ∷ ks) h = elim (eqb_tells k key) [
  | inl e ↦ rw e.0 h.1
  | inr e ↦ rw e.0 (all-without_key (λ x. k ≤ x) key ks h.0, ascending-without_key key ks h.1)
]

pub total-without_key : (f : ℕ → ℕ) (key : ℕ) (queue : List ℕ) → 0 < many key queue → total f queue ≡ f key + total f (without_key key queue)
total-without_key f key [] there = absurd (omega arith)
total-without_key f key (k ∷ ks) there = elim (eqb_tells k key) [
  | inl e ↦ rw e.0 (let k_is = ap f e.1 in omega arith)
  | inr e ↦ rw e.0 (let none = same-no key k e.1 in let more = total-without_key f key ks (omega arith) in omega arith)
]

none_smaller : (key : ℕ) (ks : List ℕ) → AllByRecursion (λ x. key ≤ x) ks → fewer key ks ≡ 0
none_smaller key [] h = refl
none_smaller key (x ∷ xs) h = let z = less-no key x h.0 in let more = none_smaller key xs h.1 in omega arith

below_each : (k key : ℕ) (ks : List ℕ) → AllByRecursion (λ x. k ≤ x) ks → 0 < many key ks → k ≤ key
below_each k key [] h there = absurd (omega arith)
below_each k key (x ∷ xs) h there = elim (eqb_tells x key) [
  | inl e ↦ omega (arith, h.0, e.1)
  | inr e ↦ (let none = same-no key x e.1 in below_each k key xs h.1 (omega arith))
]

-- the rank of a key in the queue is the number of smaller ones
pub rank_there : (key : ℕ) (queue : List ℕ) → IsAscending queue → 0 < many key queue → rank_error key queue ≡ Some (fewer key queue)
rank_there key [] h there = absurd (omega arith)
rank_there key (k ∷ ks) h there = elim (eqb_tells k key) [
  | inl e ↦ (
      let none : less key k ≡ 0 = less-no key k (omega (arith, e.1)) in
      let rest : fewer key ks ≡ 0 = none_smaller key ks (above_all key k ks (omega (arith, e.1)) h.0) in
      let z : 0 ≡ fewer key (k ∷ ks) = omega arith in
      rw e.0 (ap Some z))
  | inr e ↦ (
      let none = same-no key k e.1 in
      let later : 0 < many key ks = omega arith in
      let below : k ≤ key = below_each k key ks h.0 later in
      let apart = e.1 in
      let one : less key k ≡ 1 = less-yes key k (omega arith) in
      let more = rank_there key ks h.1 later in
      let z : suc (fewer key ks) ≡ fewer key (k ∷ ks) = omega arith in
      rw e.0 (ap (option_map suc) more ∙ ap Some z))
]

pub rank_none : (key : ℕ) (queue : List ℕ) → many key queue ≡ 0 → rank_error key queue ≡ None
rank_none key [] none = refl
rank_none key (k ∷ ks) none = elim (eqb_tells k key) [
  | inl e ↦ (let one = same-yes key k e.1 in absurd (omega arith))
  | inr e ↦ rw e.0 (ap (option_map suc) (rank_none key ks (omega arith)))
]
