-- What the bits of a worklist say of its queue.
use Rattle.std.proofs.Common.{◌≡◌, ◌≢◌, ◌==◌, ℕ, zero, suc, ◌+◌, ◌-◌, ◌<◌, ◌≤◌, Bool, true, false, cond, List, [], ◌∷◌, ◌++◌, length, get_or, set, replicate, Contains, refl, sym, ◌∙◌, ◌⊎◌, inl, inr, arith}
use Rattle.std.specs.List.{count_by}
use Rattle.std.proofs.lemmas.Bool.{eq-eqb, false≢true, cases_lt, cases_Bool}
use Rattle.std.proofs.lemmas.Bool.Decides.{eqb_tells}
use Rattle.std.proofs.lemmas.List.{get_or-set_same, get_or-set_other, length-set, length-append, get_or_past, get_or-replicate, length-replicate}
use Rattle.std.proofs.lemmas.List.Sums.{sum_by-set, sum_by-append, sum_by-cons, count_by-le-length}
use Rattle.std.proofs.lemmas.List.Folds.{sum_by-replicate}
use Rattle.ea_search.specs.Worklist.{is_marked, IsWorklist}

-- how often v is in a list
abbrev pub times : ℕ → List ℕ → ℕ
times v xs = count_by (λ x. x == v) xs

pub Contains-cons : (x y : ℕ) (xs : List ℕ) → Contains xs y → Contains (x ∷ xs) y
Contains-cons x y xs h = (suc h.0, omega arith, h.2)

pub Contains-cons_cases : (x y : ℕ) (xs : List ℕ) → Contains (x ∷ xs) y → (x ≡ y) ⊎ Contains xs y
Contains-cons_cases x y xs h = from_place h.0 h.1 h.2
  where
    from_place : (k : ℕ) → k < length (x ∷ xs) → get_or (x ∷ xs) k y ≡ y → (x ≡ y) ⊎ Contains xs y
    from_place zero l e = inl e
    from_place (suc k) l e = inr (k, omega arith, e)

times-cons : (v x : ℕ) (xs : List ℕ) → times v (x ∷ xs) ≡ cond (x == v) 1 0 + times v xs
times-cons v x xs = sum_by-cons (λ (y : ℕ). cond (y == v) 1 0) x xs

-- what is in a list occurs at least once
pub times-contains : (v : ℕ) (xs : List ℕ) → 0 < times v xs → Contains xs v
times-contains v [] h = absurd (omega arith)
times-contains v (x ∷ xs) h = elim (eqb_tells x v) [
  | inl e ↦ (zero, omega arith, e.1)
  | inr e ↦ Contains-cons x v xs (times-contains v xs (let g = times-cons v x xs in let none : cond {A = ℕ} (x == v) 1 0 ≡ 0 = rw e.0 refl in omega arith))
]

pub contains-times : (v : ℕ) (xs : List ℕ) → Contains xs v → 0 < times v xs
contains-times v [] h = absurd (omega (arith, h.1))
contains-times v (x ∷ xs) h = elim (Contains-cons_cases x v xs h) [
  | inl e ↦ (let g = times-cons v x xs in let one : cond {A = ℕ} (x == v) 1 0 ≡ 1 = rw (eq-eqb x v e) refl in omega arith)
  | inr g ↦ (let sum = times-cons v x xs in let more = contains-times v xs g in omega arith)
]

pub times-push : (v w : ℕ) (xs : List ℕ) → times w (xs ++ v ∷ []) ≡ times w xs + cond (v == w) 1 0
times-push v w xs =
    let e = sum_by-append (λ (x : ℕ). cond (x == w) 1 0) xs (v ∷ []) in
    omega arith

-- the bits after one is written
pub is_marked-same : (marked : List Bool) (v : ℕ) (b : Bool) → 0 < v → v ≤ length marked → is_marked (set marked (v - 1) b) v ≡ b
is_marked-same marked zero b h l = absurd (omega arith)
is_marked-same marked (suc k) b h l =
    let e : suc k - 1 ≡ k = omega arith in rw e (get_or-set_same marked k b false (omega arith))

pub is_marked-other : (marked : List Bool) (v w : ℕ) (b : Bool) → 0 < v → w ≢ v → is_marked (set marked (v - 1) b) w ≡ is_marked marked w
is_marked-other marked zero w b h ne = absurd (omega arith)
is_marked-other marked (suc k) zero b h ne = refl
is_marked-other marked (suc k) (suc j) b h ne =
    let e : suc k - 1 ≡ k = omega arith in rw e (get_or-set_other marked k j b false (omega arith))

pub is_marked-get_or : (marked : List Bool) (v : ℕ) → 0 < v → is_marked marked v ≡ get_or marked (v - 1) false
is_marked-get_or marked zero h = absurd (omega arith)
is_marked-get_or marked (suc k) h = let e : suc k - 1 ≡ k = omega arith in rw e refl

-- a marked node is one
pub marked-node : (marked : List Bool) (v : ℕ) → is_marked marked v ≡ true → (0 < v) × (v ≤ length marked)
marked-node marked zero h = absurd (false≢true h)
marked-node marked (suc k) h = elim (cases_lt k (length marked)) [
  | inl l ↦ (omega arith, omega arith)
  | inr l ↦ absurd (false≢true (sym (get_or_past marked k false l) ∙ h))
]

-- how many bits are set after one is set or cleared
pub set_bits-more : (marked : List Bool) (v : ℕ) → 0 < v → v ≤ length marked → is_marked marked v ≡ false → count_by (λ b. b) (set marked (v - 1) true) ≡ count_by (λ b. b) marked + 1
set_bits-more marked v h l clear =
    let e = sum_by-set (λ (b : Bool). cond b 1 0) marked (v - 1) true false (omega arith) in
    let was : cond {A = ℕ} (get_or marked (v - 1) false) 1 0 ≡ 0 = rw (← is_marked-get_or marked v h, clear) refl in
    omega arith

pub set_bits-less : (marked : List Bool) (v : ℕ) → 0 < v → v ≤ length marked → is_marked marked v ≡ true → count_by (λ b. b) (set marked (v - 1) false) + 1 ≡ count_by (λ b. b) marked
set_bits-less marked v h l there =
    let e = sum_by-set (λ (b : Bool). cond b 1 0) marked (v - 1) false false (omega arith) in
    let was : cond {A = ℕ} (get_or marked (v - 1) false) 1 0 ≡ 1 = rw (← is_marked-get_or marked v h, there) refl in
    omega arith

module _ (room : ℕ) (queue : List ℕ) (marked : List Bool) (w : IsWorklist room queue marked) where
  pub marked-contains : (v : ℕ) → is_marked marked v ≡ true → Contains queue v
  marked-contains v h =
      let one : times v queue ≡ 1 = w.once v ∙ (rw h refl) in times-contains v queue (omega arith)

  pub clear-absent : (v : ℕ) → is_marked marked v ≡ false → Contains queue v → ⊥
  clear-absent v h there =
      let none : times v queue ≡ 0 = w.once v ∙ (rw h refl) in
      let some = contains-times v queue there in omega arith

  pub contains-marked : (v : ℕ) → Contains queue v → is_marked marked v ≡ true
  contains-marked v there = elim (cases_Bool (is_marked marked v)) [
    | inl e ↦ e
    | inr e ↦ absurd (clear-absent v e there)
  ]

  -- a node that does not wait finds room
  pub has_room : (v : ℕ) → 0 < v → v ≤ length marked → is_marked marked v ≡ false → length queue < room
  has_room v h l clear =
      let more = set_bits-more marked v h l clear in
      let most = count_by-le-length (λ (b : Bool). b) (set marked (v - 1) true) in
      let same = length-set marked (v - 1) true in
      let counted = w.counted in
      let fits = w.fits in
      omega arith

  pub IsWorklist-push : (v : ℕ) → 0 < v → v ≤ length marked → is_marked marked v ≡ false → IsWorklist room (queue ++ v ∷ []) (set marked (v - 1) true)
  IsWorklist-push v h l clear = record {
    fits = rw length-set w.fits;
    once = λ x. push_once x;
    counted = rw (length-append, set_bits-more marked v h l clear, w.counted) refl;
  }
    where
      push_once : (x : ℕ) → times x (queue ++ v ∷ []) ≡ cond (is_marked (set marked (v - 1) true) x) 1 0
      push_once x = elim (eqb_tells v x) [
        | inl e ↦ (
            let t = times-push v x queue in
            let none : times x queue ≡ 0 = w.once x ∙ (rw (← e.1, clear) refl) in
            let one : cond {A = ℕ} (v == x) 1 0 ≡ 1 = rw e.0 refl in
            let set_there : is_marked (set marked (v - 1) true) x ≡ true = rw (← e.1) (is_marked-same marked v true h l) in
            rw set_there (omega arith))
        | inr e ↦ (
            let t = times-push v x queue in
            let zero' : cond {A = ℕ} (v == x) 1 0 ≡ 0 = rw e.0 refl in
            let same = w.once x in
            rw (is_marked-other marked v x true h (λ g. e.1 (sym g))) (omega arith))
      ]

-- the first of the queue is a marked node
pub first-marked : (room v : ℕ) (queue : List ℕ) (marked : List Bool) → IsWorklist room (v ∷ queue) marked → is_marked marked v ≡ true
first-marked room v queue marked w = contains-marked room (v ∷ queue) marked w v (zero, omega arith, refl)

pub IsWorklist-pop : (room v : ℕ) (queue : List ℕ) (marked : List Bool) → IsWorklist room (v ∷ queue) marked → IsWorklist room queue (set marked (v - 1) false)
IsWorklist-pop room v queue marked w = record {
  fits = rw length-set w.fits;
  once = λ x. pop_once x;
  counted = (let less = set_bits-less marked v node.0 node.1 there in let all = w.counted in omega arith);
}
  where
    there : is_marked marked v ≡ true
    there = first-marked room v queue marked w

    node : (0 < v) × (v ≤ length marked)
    node = marked-node marked v there

    pop_once : (x : ℕ) → times x queue ≡ cond (is_marked (set marked (v - 1) false) x) 1 0
    pop_once x = elim (eqb_tells v x) [
      | inl e ↦ (
          let t = times-cons x v queue in
          let all : times x (v ∷ queue) ≡ 1 = w.once x ∙ (rw (← e.1, there) refl) in
          let one : cond {A = ℕ} (v == x) 1 0 ≡ 1 = rw e.0 refl in
          let clear : is_marked (set marked (v - 1) false) x ≡ false = rw (← e.1) (is_marked-same marked v false node.0 node.1) in
          rw clear (omega arith))
      | inr e ↦ (
          let t = times-cons x v queue in
          let zero' : cond {A = ℕ} (v == x) 1 0 ≡ 0 = rw e.0 refl in
          let same = w.once x in
          rw (is_marked-other marked v x false node.0 (λ g. e.1 (sym g))) (omega arith))
    ]

-- nothing waits, and no bit is set
pub IsWorklist-none : (room n : ℕ) → n ≤ room → IsWorklist room [] (replicate n false)
IsWorklist-none room n h = record {
  fits = rw length-replicate h;
  once = λ v. none v;
  counted = (let e = sum_by-replicate (λ (b : Bool). cond b 1 0) n false in omega arith);
}
  where
    none : (v : ℕ) → times v [] ≡ cond (is_marked (replicate n false) v) 1 0
    none zero = refl
    none (suc k) = rw (clear k) refl
      where
        clear : (k : ℕ) → get_or (replicate n false) k false ≡ false
        clear k = elim (cases_lt k n) [
          | inl l ↦ get_or-replicate n k false false l
          | inr l ↦ get_or_past (replicate n false) k false (rw length-replicate l)
        ]
