-- What a seat with all shares concludes from what it saw of two heaps.
use Rattle.std.proofs.Common.{◌≡◌, ◌≢◌, ℕ, suc, ◌+◌, ◌<◌, ◌≤◌, Bool, true, Option, Some, List, [], ◌∷◌, length, sym, refl, ap, arith, subst, slice_index_or, min, ◌⊎◌, ⊎_elim}
use Rattle.std.specs.List.{AllByRecursion}
use mathlib.Core.Logic.{dite}
use native.Mathlib.Decide.{ℕ_discrete, dec_lt}
use Rattle.ea_pool.specs.declared.heap.entry.Entry.{Entry}
use Rattle.ea_pool.specs.declared.shared.account.SeatMemory.{SeatMemory}
use Rattle.ea_pool.specs.declared.shared.reply.Popped.{Popped}
use Rattle.ea_pool.specs.declared.shared.reply.Popped.TheVariants as reply
use Rattle.ea_machine.specs.Totals.{total}
use Rattle.ea_base.specs.declared.limits.TheConstants.{HORIZON}
use Rattle.ea_pool.specs.declared.shared.words.TheConstants.{EMPTY}
use Rattle.ea_pool.specs.declared.shared.account.LastTake.{LastTake}
use Rattle.ea_pool.specs.Entries.{only, times, IsKnown, AreKnown, face}
use Rattle.ea_pool.specs.Kinds.{HeapKind, Shows, IsBelow}
use Rattle.ea_pool.specs.States.{saw}
use Rattle.ea_pool.specs.Plays.{Surveys}
use Rattle.ea_base.specs.declared.limits.TheConstants.{SHARES}
use Rattle.ea_pool.specs.Pools.{books, SameBooks, Pops, PopsAll, NothingLeft, IsLeft, AreLeft, IsLeastLeft}
use Rattle.ea_pool.specs.Replies.{MatchPopped}
use Rattle.ea_pool.specs.Solos.{lesser}
use Rattle.ea_pool.specs.Tries.{TookLeast, TookLesser}
use Rattle.ea_pool.specs.Batches.{PopsSome, IsLowest}
use Rattle.ea_pool.proofs.Batching.{below_out}
use Rattle.ea_pool.proofs.Shown.{shown_face}
use Rattle.ea_pool.proofs.Weights.{only-same, only-one}

face_le : (d : Entry) (es : List Entry) → 0 < times d es → face es ≤ d.key
face_le d [] h = absurd (omega arith)
face_le d (e ∷ es) h = dite (dec_lt 0 (times d es)) (λ later. let b = face_le d es later in omega arith) (λ none. let one = only-one d e (omega arith) in omega (arith, ap (λ (y : Entry). y.key) one))

-- no content has a key below s
abbrev Bounds : ℕ → List (List Entry) → Type 0
Bounds s contents = (k : ℕ) → k < length contents → s ≤ face (slice_index_or contents k [])

bounds_all : (s : ℕ) (contents : List (List Entry)) → Bounds s contents → (d : Entry) → 0 < total (times d) contents → s ≤ d.key
bounds_all s [] h d some = absurd (omega arith)
bounds_all s (es ∷ rest) h d some = dite (dec_lt 0 (times d es)) (λ here. let a = h 0 (omega arith) in let b = face_le d es here in omega arith) (λ none. bounds_all s rest (λ k l. h (suc k) (omega arith)) d (omega arith))

nothing_in : (contents : List (List Entry)) → ((d : Entry) → 0 < total (times d) contents → ⊥) → (f : Entry → ℕ) → total (total f) contents ≡ 0
nothing_in [] none f = refl
nothing_in ([] ∷ rest) none f = omega (arith, nothing_in rest (λ d some. none d (omega arith)) f)
nothing_in ((e ∷ es) ∷ rest) none f = absurd (none e (omega (arith, only-same e)))

-- two different numbers below 2 are all there are
both : (i j k : ℕ) (P : ℕ → Type 0) → i < 2 → j < 2 → i ≢ j → k < 2 → P i → P j → P k
both i j k P near other apart l p q = dite (ℕ_discrete k i) (λ e. subst P (sym e) p) (λ ne. let e : j ≡ k = omega arith in subst P e q)

-- an attempt at one of the two heaps that were inspected
pub answered : (v w : SeatMemory) (i x j y : ℕ) (picked : ℕ × ℕ) (answer : Popped) → w ≡ saw (saw v i x) j y → (picked ≡ (i, x)) ⊎ (picked ≡ (j, y))
    → AllByRecursion (λ p. picked.0 ≡ p.0 → picked.1 ≡ p.1 → MatchPopped answer (λ e. Unit {0}) ⊥ ⊥) w.seen → MatchPopped answer (λ e. Unit {0}) ⊥ ⊥
answered v w i x j y picked answer is one all =
    let both = subst (λ (a : SeatMemory). AllByRecursion (λ p. picked.0 ≡ p.0 → picked.1 ≡ p.1 → MatchPopped answer (λ e. Unit {0}) ⊥ ⊥) a.seen) is all in
    ⊎_elim (λ (e : picked ≡ (i, x)). both.1.0 (ap (λ (p : ℕ × ℕ). p.0) e) (ap (λ (p : ℕ × ℕ). p.1) e)) (λ (e : picked ≡ (j, y)). both.0 (ap (λ (p : ℕ × ℕ). p.0) e) (ap (λ (p : ℕ × ℕ). p.1) e)) one

pub hits_one : (v w : SeatMemory) (i x j y : ℕ) (picked : ℕ × ℕ) (r : Bool) → w ≡ saw (saw v i x) j y → (picked ≡ (i, x)) ⊎ (picked ≡ (j, y)) → AllByRecursion (λ p. picked.0 ≡ p.0 → picked.1 ≡ p.1 → r ≡ true) w.seen → r ≡ true
hits_one v w i x j y picked r is one all =
    let both = subst (λ (a : SeatMemory). AllByRecursion (λ p. picked.0 ≡ p.0 → picked.1 ≡ p.1 → r ≡ true) a.seen) is all in
    ⊎_elim (λ (e : picked ≡ (i, x)). both.1.0 (ap (λ (p : ℕ × ℕ). p.0) e) (ap (λ (p : ℕ × ℕ). p.1) e)) (λ (e : picked ≡ (j, y)). both.0 (ap (λ (p : ℕ × ℕ). p.0) e) (ap (λ (p : ℕ × ℕ). p.1) e)) one

pub all_true : (k x : ℕ) (pairs : List (ℕ × ℕ)) → AllByRecursion (λ p. k ≡ p.0 → x ≡ p.1 → ◌≡◌ {A = Bool} true true) pairs
all_true k x [] = tt
all_true k x (p ∷ ps) = ((λ _ _. refl), all_true k x ps)

module _ (known : ℕ → ℕ → Type 0) (kind : HeapKind) (in_time : (node time : ℕ) → known node time → time ≤ HORIZON) (v w : SeatMemory) (i x j y : ℕ) (survey : Surveys known kind 2 w) (is : w ≡ saw (saw v i x) j y) (near : i < 2) (other : j < 2) (apart : i ≢ j) where
  seen : AllByRecursion (λ p. p.0 < 2 → Shows kind p.1 (slice_index_or survey.contents p.0 [])) ((j, y) ∷ (i, x) ∷ v.seen)
  seen = subst (λ (a : SeatMemory). AllByRecursion (λ p. p.0 < 2 → Shows kind p.1 (slice_index_or survey.contents p.0 [])) a.seen) is survey.seen

  left : (f : Entry → ℕ) → total f v.pushed ≡ total f v.popped + total (total f) survey.contents
  left f = omega (arith, survey.left f, ap (λ (a : SeatMemory). total f a.pushed) is, ap (λ (a : SeatMemory). total f a.popped) is)

  bounded : (s : ℕ) → s ≤ x → s ≤ y → Bounds s survey.contents
  bounded s a b k l =
      let wide = survey.width in
      let s₁ = shown_face kind x (slice_index_or survey.contents i []) (seen.1.0 near) in
      let s₀ = shown_face kind y (slice_index_or survey.contents j []) (seen.0 other) in
      both i j k (λ n. s ≤ face (slice_index_or survey.contents n [])) near other apart (omega arith) (omega arith) (omega arith)

  -- entries whose first is the least of the heap with the lesser word
  pub is_lowest : (p : List Entry) (heap s : ℕ) (before : List (ℕ × ℕ)) (last : Option LastTake) → TookLeast kind heap s p before last → s ≡ min x y → 0 < length p → AreKnown known p → (d : Entry) → IsLeft d (books v) → IsBelow kind s p d
  is_lowest p heap s before last t word some knows d more =
      below_out kind s p t.content t.least.0 d t.least.1 t.word_is some (λ e there. in_time e.node e.key (knows e there))
      (bounds_all s survey.contents (bounded s (omega arith) (omega arith)) d (omega (arith, left (only d))))

  pub is_least : (e : Entry) → e.key ≤ x → e.key ≤ y → (d : Entry) → IsLeft d (books v) → e.key ≤ d.key
  is_least e a b d more = bounds_all e.key survey.contents (bounded e.key a b) d (omega (arith, left (only d)))

  pub is_nothing : x ≡ EMPTY → y ≡ EMPTY → NothingLeft (books v)
  is_nothing a b f = omega (
    arith,
    left f,
    nothing_in survey.contents (λ d some.
        let low = bounds_all EMPTY survey.contents (bounded EMPTY (omega arith) (omega arith)) d some in
        let late = in_time d.node d.key (survey.known_all d (omega (arith, left (only d), ap (λ (z : SeatMemory). times d z.pushed) is))) in
        omega arith) f,
  )

  pub pops_least_of_two : (answer : Popped) (b : SeatMemory) (s : ℕ) → s ≡ min x y → MatchPopped answer (λ e. Pops (books w) e (books b) × IsKnown known e × (e.key ≡ s)) ⊥ (SameBooks (books w) (books b) × (b.seen ≡ [])) → MatchPopped answer (λ e. Unit {0}) ⊥ ⊥
      → MatchPopped answer (λ e. IsLeft e (books w)) (Unit {0}) (Unit {0})
      → MatchPopped answer (λ e. IsLeastLeft e (books v)) (NothingLeft (books v)) ⊥
  pops_least_of_two (reply.Entry e) b s m t busy there = (
    omega (arith, there, ap (λ (a : SeatMemory). times e a.pushed) is, ap (λ (a : SeatMemory). times e a.popped) is),
    is_least e (omega (arith, t.2)) (omega (arith, t.2)),
  )
  pops_least_of_two reply.Empty b s m t busy there = absurd t
  pops_least_of_two reply.Busy b s m t busy there = busy

-- entries from the heap with the lesser word of two that were inspected
module _
    (known : ℕ → ℕ → Type 0)
    (kind : HeapKind)
    (in_time : (node time : ℕ) → known node time → time ≤ HORIZON)
    (most heaps : ℕ)
    (before after : List Entry)
    (v w b : SeatMemory)
    (i x j y : ℕ)
    (picked : ℕ × ℕ)
    (is : w ≡ saw (saw v i x) j y)
    (heap : picked.0 ≡ lesser i (Some x) j (Some y))
    (word : picked.1 ≡ min x y)
    (p : PopsSome known kind most before after (books w) (books b) (λ out. TookLeast kind picked.0 picked.1 out w.seen b.last_take) b.last_take) where
  took_lesser : TookLesser kind i j p.out v.seen b.last_take
  took_lesser = record {
    x = x;
    y = y;
    took = subst (λ (k : ℕ). TookLeast kind k (min x y) p.out ((j, y) ∷ (i, x) ∷ v.seen) b.last_take) heap
        (subst (λ (n : ℕ). TookLeast kind picked.0 n p.out ((j, y) ∷ (i, x) ∷ v.seen) b.last_take) word
        (subst (λ (a : SeatMemory). TookLeast kind picked.0 picked.1 p.out a.seen b.last_take) is p.took));
  }

  pub pops_lesser : i < heaps → j < heaps → i ≢ j → (v.shares ≡ SHARES → Surveys known kind heaps w)
      → (pops : PopsSome known kind most before after (books v) (books b) (λ out. TookLesser kind i j out v.seen b.last_take) b.last_take) × IsLowest kind heaps (min pops.took.x pops.took.y) pops.out (books v)
  unfolding took_lesser
  pops_lesser near other apart survey = (
    record {
      out = p.out;
      brought = p.brought;
      some = p.some;
      popped = subst (λ (a : SeatMemory). PopsAll (books a) p.out (books b)) is p.popped;
      known_all = p.known_all;
      took = took_lesser;
      few = p.few;
      enough = p.enough;
      left = subst (λ (a : SeatMemory). a.shares ≡ SHARES → AreLeft p.out (books a)) is p.left;
    },
    λ whole two d more. subst (λ (n : ℕ). IsBelow kind n p.out d) word
        (is_lowest known kind in_time v w i x j y (subst (λ (h : ℕ). Surveys known kind h w) two (survey whole)) is
        (subst (λ (h : ℕ). i < h) two near) (subst (λ (h : ℕ). j < h) two other) apart
        p.out picked.0 picked.1 w.seen b.last_take p.took word p.some p.known_all d more),
  )
