-- How pushes and pops change the weight of all heaps.
use Rattle.std.proofs.Common.{◌≡◌, ◌≢◌, ℕ, zero, suc, ◌+◌, ◌-◌, ◌%◌, ◌<◌, ◌≤◌, List, [], ◌∷◌, length, set, replicate, refl, sym, ap, ◌∙◌, arith, subst, inl, inr}
use Rattle.std.proofs.lemmas.List.{length-set}
use Rattle.std.proofs.lemmas.Bool.{cases_lt}
use Rattle.std.proofs.Math.Nat.{mod-eq_of_lt, add-mod_left}
use Rattle.ea_pool.specs.declared.heap.entry.Entry.{Entry}
use Rattle.ea_pool.specs.Draws.{first_draw, second_draw}
use Rattle.ea_machine.specs.Totals.{total}
use Rattle.ea_pool.specs.Solos.{content, lesser_heap, rank_error, AddsTo, TakesFrom}
use Rattle.ea_pool.proofs.Ranks.{rank_bounded}
use Rattle.ea_rank.specs.Runs.{weighs, BothEmpty}

weighs-set : (f : Entry → ℕ) (heaps : List (List Entry)) (k : ℕ) (es : List Entry) → k < length heaps → weighs f (set heaps k es) + total f (content heaps k) ≡ weighs f heaps + total f es
weighs-set f [] k es near = absurd (omega arith)
weighs-set f (h ∷ heaps) zero es near = omega arith
weighs-set f (h ∷ heaps) (suc k) es near = omega (arith, weighs-set f heaps k es (omega arith))

content_past : (heaps : List (List Entry)) (k : ℕ) → length heaps ≤ k → content heaps k ≡ []
content_past [] k past = refl
content_past (h ∷ heaps) zero past = absurd (omega arith)
content_past (h ∷ heaps) (suc k) past = content_past heaps k (omega arith)

pub adds-weighs : (k : ℕ) (e : Entry) (old new : List (List Entry)) → k < length old → AddsTo k e old new → (f : Entry → ℕ) → weighs f new ≡ f e + weighs f old
adds-weighs k e old new near a f = omega (arith, ap (weighs f) a.1, weighs-set f old k a.0 near, a.2 f)

pub adds-length : (k : ℕ) (e : Entry) (old new : List (List Entry)) → AddsTo k e old new → length new ≡ length old
adds-length k e old new a = ap (λ (l : List (List Entry)). length l) a.1 ∙ length-set old k a.0

pub takes-weighs : (k : ℕ) (e : Entry) (old new : List (List Entry)) → TakesFrom k e old new → (f : Entry → ℕ) → weighs f old ≡ f e + weighs f new
takes-weighs k e old new t f = elim (cases_lt k (length old)) [
  | inl near ↦ omega (arith, ap (weighs f) t.1, weighs-set f old k t.0 near, t.2 f)
  | inr past ↦ (let none = ap (total (λ (x : Entry). 1)) (content_past old k past) in let one = t.2 (λ (x : Entry). 1) in absurd (omega arith))
]

pub takes-length : (k : ℕ) (e : Entry) (old new : List (List Entry)) → TakesFrom k e old new → length new ≡ length old
takes-length k e old new t = ap (λ (l : List (List Entry)). length l) t.1 ∙ length-set old k t.0

both_lengths : (heaps : List (List Entry)) (i j : ℕ) → length heaps ≡ 2 → i < 2 → j < 2 → i ≢ j → total (λ (es : List Entry). length es) heaps ≡ length (content heaps i) + length (content heaps j)
both_lengths [] i j two a b apart = absurd (omega arith)
both_lengths (x ∷ []) i j two a b apart = absurd (omega arith)
both_lengths (x ∷ y ∷ z ∷ heaps) i j two a b apart = absurd (omega arith)
both_lengths (x ∷ y ∷ []) zero zero two a b apart = absurd (apart refl)
both_lengths (x ∷ y ∷ []) zero (suc zero) two a b apart = omega arith
both_lengths (x ∷ y ∷ []) zero (suc (suc j)) two a b apart = absurd (omega arith)
both_lengths (x ∷ y ∷ []) (suc zero) zero two a b apart = omega arith
both_lengths (x ∷ y ∷ []) (suc zero) (suc zero) two a b apart = absurd (apart refl)
both_lengths (x ∷ y ∷ []) (suc zero) (suc (suc j)) two a b apart = absurd (omega arith)
both_lengths (x ∷ y ∷ []) (suc (suc i)) j two a b apart = absurd (omega arith)

other_draw : (first second : ℕ) → (first % 2 < 2) × ((first % 2 + 1 + second % 1) % 2 < 2) × (first % 2 ≢ (first % 2 + 1 + second % 1) % 2)
other_draw first second = (omega arith, omega arith, λ e. absurd (omega arith))

-- with two heaps a pop gives the least key of all
pub exact_of_two : (n first second : ℕ) (e : Entry) (old new : List (List Entry)) → n ≡ 2 → length old ≡ n → TakesFrom (lesser_heap old (first_draw n first) (second_draw n first second)) e old new → rank_error e.key old ≡ 0
exact_of_two n first second e old new two long t =
    let i : ℕ = first % 2 in
    let j : ℕ = (first % 2 + 1 + second % 1) % 2 in
    let draws = other_draw first second in
    let taken = subst (λ (m : ℕ). TakesFrom (lesser_heap old (first_draw m first) (second_draw m first second)) e old new) two t in
    let most = rank_bounded old new i j e (omega (arith, draws.0)) (omega (arith, draws.1)) draws.2 taken in
    let all = both_lengths old i j (long ∙ two) draws.0 draws.1 draws.2 in
    omega arith

-- if the heaps have no entry, nothing has weight
pub none_weighs : (f : Entry → ℕ) (heaps : List (List Entry)) → total (λ (es : List Entry). length es) heaps ≡ 0 → weighs f heaps ≡ 0
none_weighs f [] none = refl
none_weighs f ([] ∷ heaps) none = omega (arith, none_weighs f heaps (omega arith))
none_weighs f ((e ∷ es) ∷ heaps) none = absurd (omega arith)

pub fresh_weighs : (f : Entry → ℕ) (n : ℕ) → weighs f (replicate {A = List Entry} n []) ≡ 0
fresh_weighs f zero = refl
fresh_weighs f (suc n) = omega (arith, fresh_weighs f n)

-- if each heap is empty, there is no entry
no_entries : (heaps : List (List Entry)) → ((k : ℕ) → k < length heaps → content heaps k ≡ []) → total (λ (es : List Entry). length es) heaps ≡ 0
no_entries [] all = refl
no_entries (h ∷ heaps) all = omega (arith, ap (λ (l : List Entry). length l) (all 0 (omega arith)), no_entries heaps (λ k near. all (suc k) (omega arith)))

-- the words after a remainder reach each heap
turned : (n first k : ℕ) → 0 < n → k < n → (s : ℕ) × (s < n) × ((first % n + s) % n ≡ k)
turned n first k some near = elim (cases_lt k (first % n)) [
  | inl l ↦ (n + k - first % n, omega arith, (let e : first % n + (n + k - first % n) ≡ n + k = omega arith in ap (λ (m : ℕ). m % n) e ∙ wraps n k some near))
  | inr l ↦ (k - first % n, omega arith, (let e : first % n + (k - first % n) ≡ k = omega arith in ap (λ (m : ℕ). m % n) e ∙ small n k some near))
]
  where
    small : (n k : ℕ) → 0 < n → k < n → k % n ≡ k
    small n k some near = mod-eq_of_lt near

    wraps : (n k : ℕ) → 0 < n → k < n → (n + k) % n ≡ k
    wraps n k some near = add-mod_left n k ∙ small n k some near

pub tried_all : (old : List (List Entry)) (first second : ℕ) → 0 < length old → ((s : ℕ) → s < length old → BothEmpty old (first % length old + s) second) → total (λ (es : List Entry). length es) old ≡ 0
tried_all old first second some all = no_entries old (λ k near. (let t = turned (length old) first k some near in ap (content old) (sym t.2) ∙ (all t.0 t.1).0))

pub fresh_length : (n : ℕ) → total (λ (es : List Entry). length es) (replicate {A = List Entry} n []) ≡ 0
fresh_length zero = refl
fresh_length (suc n) = omega (arith, fresh_length n)
