-- What a `BinaryHeap` of reversed entries says of the entries.
use Rattle.std.proofs.Common.{◌≡◌, ℕ, lt-ltb, le-ltb, eq-eqb, ◌<◌, ◌≤◌, true, false, List, [], ◌∷◌, map, arith, length, get_or, ap, subst, sym, refl, ◌∙◌, Option, Some, None, min, MatchOption}
use mathlib.Core.Logic.{dite}
use native.Mathlib.Decide.{dec_lt}
use Rattle.std.specs.List.{AllByRecursion}
use Rattle.std.specs.List.Sorted.{IsPermutation}
use Rattle.std.specs.Prelude.{nat_lt, nat_eq}
use Rattle.std.proofs.lemmas.Map.Keys.{ge_from_not_lt}
use Rattle.std.specs.Ordering.{is_lt, nat_cmp, ordering_then}
use Rattle.ea_pool.specs.declared.heap.entry.Entry.{Entry}
use Rattle.ea_base.specs.declared.limits.TheConstants.{HORIZON}
use Rattle.ea_pool.specs.declared.shared.words.TheConstants.{EMPTY}
use Rattle.ea_pool.specs.Entries.{only, times, SameEntries, ComesFirst, IsLeastOf, entry_order, face, lower, least_key}
use Rattle.ea_machine.proofs.Totals.{total_permuted}
use Rattle.ea_pool.proofs.Weights.{only-same, only-one}

not_less : (a b c d : ℕ) → a < b → is_lt (ordering_then (nat_cmp a b) (nat_cmp c d)) ≡ false → ⊥
not_less a b c d l h = let e : nat_lt a b ≡ true = lt-ltb _ _ l in let k : true ≡ false = rw e at h in cc

tied : (a b c d : ℕ) → a ≡ b → is_lt (ordering_then (nat_cmp a b) (nat_cmp c d)) ≡ false → is_lt (nat_cmp c d) ≡ false
tied a b c d e h = let u : nat_lt a b ≡ false = le-ltb _ _ (omega arith) in let t : nat_eq a b ≡ true = eq-eqb a b e in rw (u, t) at h

pub first_from_order : (x y : Entry) → is_lt (entry_order y x) ≡ false → ComesFirst x y
first_from_order x y h = (
  dite (dec_lt y.key x.key) (λ less. absurd (not_less y.key x.key y.node x.node less h)) (λ more. omega arith),
  λ same. ge_from_not_lt _ _ (tied y.key x.key y.node x.node (omega arith) h),
)

module _ {R : Type 0} (entry_of : R → Entry) where
  pub least_from_greatest : (x : Entry) (xs : List R) → AllByRecursion (λ r. is_lt (entry_order (entry_of r) x) ≡ false) xs → IsLeastOf x (map entry_of xs)
  least_from_greatest x [] h = tt
  least_from_greatest x (r ∷ rs) h = (first_from_order x (entry_of r) h.0, least_from_greatest x rs h.1)

  pub same_permuted : (xs ys : List R) → IsPermutation xs ys → SameEntries (map entry_of ys) (map entry_of xs)
  same_permuted xs ys p f = let e = total_permuted f entry_of xs ys p in omega arith

  -- the element at the front is among the entries
  pub top_is_there : (x : R) (xs : List R) → 0 < length xs → x ≡ get_or xs 0 x → 0 < times (entry_of x) (map entry_of xs)
  top_is_there x [] l e = absurd (omega arith)
  top_is_there x (r ∷ rs) l e = omega (arith, only-same (entry_of x), ap (λ (y : R). only (entry_of x) (entry_of y)) e)

-- what precedes all precedes each entry
pub comes_before : (x d : Entry) (es : List Entry) → IsLeastOf x es → 0 < times d es → ComesFirst x d
comes_before x d [] h there = absurd (omega arith)
comes_before x d (e ∷ es) h there = dite (dec_lt 0 (times d es)) (λ later. comes_before x d es h.1 later) (λ none. subst (ComesFirst x) (sym (only-one d e (omega arith))) h.0)

comes_before_all : (x : Entry) (es : List Entry) → ((d : Entry) → 0 < times d es → ComesFirst x d) → IsLeastOf x es
comes_before_all x [] h = tt
comes_before_all x (e ∷ es) h = (h e (omega (arith, only-same e)), comes_before_all x es (λ d there. h d (omega arith)))

-- and so it precedes some of them
pub least_of_part : (x : Entry) (es part : List Entry) → ((d : Entry) → times d part ≤ times d es) → IsLeastOf x es → IsLeastOf x part
least_of_part x es part few h = comes_before_all x part (λ d there. comes_before x d es h (omega (arith, few d)))

face_above : (k : ℕ) (es : List Entry) → AllByRecursion (λ y. k ≤ y.key) es → k ≤ EMPTY → k ≤ face es
face_above k [] h low = low
face_above k (e ∷ es) h low = let a = h.0 in let b = face_above k es h.1 low in omega arith

keys_of_least : (x : Entry) (es : List Entry) → IsLeastOf x es → AllByRecursion (λ y. x.key ≤ y.key) es
keys_of_least x [] h = tt
keys_of_least x (e ∷ es) h = (h.0.0, keys_of_least x es h.1)

-- the least key of the entries
pub face_is : (x : Entry) (es : List Entry) → IsLeastOf x es → 0 < times x es → x.key ≤ HORIZON → face es ≡ x.key
face_is x [] least there low = absurd (omega arith)
face_is x (e ∷ es) least there low =
    let first : x.key ≤ e.key = least.0.0 in
    dite (dec_lt 0 (times x es))
    (λ later. let same = face_is x es least.1 later low in omega arith)
    (λ none. let one = only-one x e (omega arith) in let more = face_above x.key es (keys_of_least x es least.1) (omega arith) in omega (arith, ap (λ (y : Entry). y.key) one))

none_lower : (key : ℕ) (o : Option ℕ) → MatchOption o (Unit {0}) (λ x. key ≤ x) → lower key o ≡ Some key
none_lower key None h = refl
none_lower key (Some x) h = let e : min key x ≡ key = omega arith in ap Some e

lower_above : (k key : ℕ) (o : Option ℕ) → k ≤ key → MatchOption o (Unit {0}) (λ x. k ≤ x) → MatchOption (lower key o) (Unit {0}) (λ x. k ≤ x)
lower_above k key None a h = a
lower_above k key (Some x) a h = omega arith

keys_above : (k : ℕ) (es : List Entry) → AllByRecursion (λ y. k ≤ y.key) es → MatchOption (least_key es) (Unit {0}) (λ x. k ≤ x)
keys_above k [] h = tt
keys_above k (e ∷ es) h = lower_above k e.key (least_key es) h.0 (keys_above k es h.1)

-- the least key of the entries, if there are some
pub least_key_is : (x : Entry) (es : List Entry) → IsLeastOf x es → 0 < times x es → least_key es ≡ Some x.key
least_key_is x [] least there = absurd (omega arith)
least_key_is x (e ∷ es) least there =
    dite (dec_lt 0 (times x es))
    (λ later. let first : x.key ≤ e.key = least.0.0 in let m : min e.key x.key ≡ x.key = omega arith in ap (lower e.key) (least_key_is x es least.1 later) ∙ ap Some m)
    (λ none. let one = only-one x e (omega arith) in subst (λ (y : Entry). lower y.key (least_key es) ≡ Some x.key) one (none_lower x.key (least_key es) (keys_above x.key es (keys_of_least x es least.1))))
