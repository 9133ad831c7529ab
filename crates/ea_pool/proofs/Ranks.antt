-- The rank error of a pop from the better of two heaps.
use Rattle.std.proofs.Common.{◌≡◌, ◌≢◌, ℕ, zero, suc, ◌+◌, ◌<◌, ◌≤◌, List, [], ◌∷◌, length, sym, refl, ap, ◌∙◌, arith, Option, Some, None, MatchOption, ltb, eqb, lt-ltb, le-ltb, eq-eqb, ne_eqb, cond, Bool, true, false, min}
use mathlib.Core.Logic.{dite}
use native.Mathlib.Decide.{dec_le, dec_lt, ℕ_discrete}
use Rattle.ea_pool.specs.declared.heap.entry.Entry.{Entry}
use Rattle.ea_machine.specs.Totals.{total}
use Rattle.ea_pool.specs.Entries.{times, only, lower, least_key}
use Rattle.std.specs.Prelude.{IfSome}
use Rattle.ea_pool.specs.Solos.{content, lesser, lesser_heap, TakesFrom, rank_error, RankIsBounded}
use Rattle.ea_pool.proofs.Weights.{only-same}
use Rattle.ea_pool.proofs.HeapOrder.{least_key_is}

abbrev pub Above : ℕ → Option ℕ → Type 0
Above key o = MatchOption o (Unit {0}) (λ x. key ≤ x)

abbrev value : Option ℕ → ℕ
value None = 0
value (Some x) = x

module _ (key : ℕ → Option ℕ) (k : ℕ) where
  chosen : (i j a b n : ℕ) → key i ≡ Some a → key j ≡ Some b → lesser i (Some a) j (Some b) ≡ n → key n ≡ Some k → (k ≤ a) × (k ≤ b)
  chosen i j a b n ka kb is found = dite (dec_lt b a)
      (λ l. let e : lesser i (Some a) j (Some b) ≡ j = ap (λ t. cond t j (cond (eqb a b) (min i j) i)) (lt-ltb b a l) in
      let v = ap value (sym found ∙ (ap key (sym is ∙ e) ∙ kb)) in (omega arith, omega arith))
      (λ n'. let s : lesser i (Some a) j (Some b) ≡ cond (eqb a b) (min i j) i = ap (λ t. cond t j (cond (eqb a b) (min i j) i)) (le-ltb b a (omega arith)) in
      dite (ℕ_discrete a b)
      (λ same. let m : lesser i (Some a) j (Some b) ≡ min i j = s ∙ ap (λ t. cond t (min i j) i) (eq-eqb a b same) in
      dite (dec_le i j)
      (λ l. let f : min i j ≡ i = omega arith in let v = ap value (sym found ∙ (ap key (sym is ∙ (m ∙ f)) ∙ ka)) in (omega arith, omega arith))
      (λ g. let f : min i j ≡ j = omega arith in let v = ap value (sym found ∙ (ap key (sym is ∙ (m ∙ f)) ∙ kb)) in (omega arith, omega arith)))
      (λ other. let f : lesser i (Some a) j (Some b) ≡ i = s ∙ ap (λ t. cond t (min i j) i) (ne_eqb a b other) in
      let v = ap value (sym found ∙ (ap key (sym is ∙ f) ∙ ka)) in (omega arith, omega arith)))

  -- the key of the chosen heap is above neither
  lesser_least : (i j : ℕ) (x y : Option ℕ) → key i ≡ x → key j ≡ y → key (lesser i x j y) ≡ Some k → Above k x × Above k y
  lesser_least i j None None kx ky found = (tt, tt)
  lesser_least i j None (Some b) kx ky found = let v = ap value (sym found ∙ ky) in (tt, omega arith)
  lesser_least i j (Some a) None kx ky found = let v = ap value (sym found ∙ kx) in (omega arith, tt)
  lesser_least i j (Some a) (Some b) kx ky found = chosen i j a b (lesser i (Some a) j (Some b)) kx ky refl found

abbrev one_if : Bool → ℕ
one_if b = cond b 1 0

abbrev below : ℕ → List Entry → ℕ
below key es = total (λ e. one_if (ltb e.key key)) es

pub above_lower : (key x : ℕ) (o : Option ℕ) → Above key (lower x o) → (key ≤ x) × Above key o
above_lower key x None h = (h, tt)
above_lower key x (Some y) h = (omega arith, omega arith)

none_below : (key : ℕ) (es : List Entry) → Above key (least_key es) → below key es ≡ 0
none_below key [] h = refl
none_below key (e ∷ es) h =
    let t = above_lower key e.key (least_key es) h in
    let z : one_if (ltb e.key key) ≡ 0 = ap one_if (le-ltb e.key key t.0) in
    omega (arith, none_below key es t.1)

one_at_most : (b : Bool) → one_if b ≤ 1
one_at_most true = omega arith
one_at_most false = omega arith

few_below : (key : ℕ) (es : List Entry) → below key es ≤ length es
few_below key [] = omega arith
few_below key (e ∷ es) = omega (arith, few_below key es, one_at_most (ltb e.key key))

all_few : (key : ℕ) (heaps : List (List Entry)) → rank_error key heaps ≤ total length heaps
all_few key [] = omega arith
all_few key (es ∷ heaps) = omega (arith, few_below key es, all_few key heaps)

without_one : (key : ℕ) (heaps : List (List Entry)) (i : ℕ) → i < length heaps → below key (content heaps i) ≡ 0 → rank_error key heaps + length (content heaps i) ≤ total length heaps
without_one key [] i near z = absurd (omega arith)
without_one key (es ∷ heaps) zero near z = omega (arith, all_few key heaps)
without_one key (es ∷ heaps) (suc i) near z = omega (arith, few_below key es, without_one key heaps i (omega arith) z)

without_two : (key : ℕ) (heaps : List (List Entry)) (i j : ℕ) → i < length heaps → j < length heaps → i ≢ j → below key (content heaps i) ≡ 0 → below key (content heaps j) ≡ 0
    → rank_error key heaps + (length (content heaps i) + length (content heaps j)) ≤ total length heaps
without_two key [] i j near other apart a b = absurd (omega arith)
without_two key (es ∷ heaps) zero zero near other apart a b = absurd (apart refl)
without_two key (es ∷ heaps) zero (suc j) near other apart a b = omega (arith, without_one key heaps j (omega arith) b)
without_two key (es ∷ heaps) (suc i) zero near other apart a b = omega (arith, without_one key heaps i (omega arith) a)
without_two key (es ∷ heaps) (suc i) (suc j) near other apart a b = omega (arith, few_below key es, without_two key heaps i j (omega arith) (omega arith) (λ e. apart (ap suc e)) a b)

pub rank_bounded : RankIsBounded
rank_bounded heaps new i j e near other apart t =
    let k : ℕ = lesser_heap heaps i j in
    let there : 0 < times e (content heaps k) = omega (arith, t.2 (only e), only-same e) in
    let found : least_key (content heaps k) ≡ Some e.key = least_key_is e (content heaps k) t.3 there in
    let both = lesser_least (λ n. least_key (content heaps n)) e.key i j (least_key (content heaps i)) (least_key (content heaps j)) refl refl found in
    without_two e.key heaps i j near other apart (none_below e.key (content heaps i) both.0) (none_below e.key (content heaps j) both.1)

-- the same for the outcome of a pop
pub ranked : (heaps new : List (List Entry)) (i j : ℕ) (answer : Option Entry) → i < length heaps → j < length heaps → i ≢ j
    → MatchOption answer ((content heaps i ≡ []) × (content heaps j ≡ []) × (new ≡ heaps)) (λ least. TakesFrom (lesser_heap heaps i j) least heaps new)
    → IfSome answer (λ least. rank_error least.key heaps + (length (content heaps i) + length (content heaps j)) ≤ total length heaps)
ranked heaps new i j None near other apart t = tt
ranked heaps new i j (Some e) near other apart t = rank_bounded heaps new i j e near other apart t

-- two different heaps of two are all there are
two_are_all : (heaps : List (List Entry)) (i j : ℕ) → length heaps ≡ 2 → i < 2 → j < 2 → i ≢ j → total length heaps ≡ length (content heaps i) + length (content heaps j)
two_are_all [] i j two near other apart = absurd (omega arith)
two_are_all (a ∷ []) i j two near other apart = absurd (omega arith)
two_are_all (a ∷ b ∷ c ∷ rest) i j two near other apart = absurd (omega arith)
two_are_all (a ∷ b ∷ []) zero zero two near other apart = absurd (apart refl)
two_are_all (a ∷ b ∷ []) zero (suc zero) two near other apart = omega arith
two_are_all (a ∷ b ∷ []) zero (suc (suc j)) two near other apart = absurd (omega arith)
two_are_all (a ∷ b ∷ []) (suc zero) zero two near other apart = omega arith
two_are_all (a ∷ b ∷ []) (suc zero) (suc zero) two near other apart = absurd (apart refl)
two_are_all (a ∷ b ∷ []) (suc zero) (suc (suc j)) two near other apart = absurd (omega arith)
two_are_all (a ∷ b ∷ []) (suc (suc i)) j two near other apart = absurd (omega arith)

-- so with two heaps no smaller key is left
pub ranked_of_two : (heaps new : List (List Entry)) (i j : ℕ) (answer : Option Entry) → length heaps ≡ 2 → i < length heaps → j < length heaps → i ≢ j
    → MatchOption answer ((content heaps i ≡ []) × (content heaps j ≡ []) × (new ≡ heaps)) (λ least. TakesFrom (lesser_heap heaps i j) least heaps new)
    → IfSome answer (λ least. rank_error least.key heaps ≡ 0)
ranked_of_two heaps new i j None two near other apart t = tt
ranked_of_two heaps new i j (Some e) two near other apart t = omega (arith, rank_bounded heaps new i j e near other apart t, two_are_all heaps i j two (omega arith) (omega arith) apart)
