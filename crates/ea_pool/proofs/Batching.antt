-- A batch is pushed to a heap, and popped from one, entry by entry.
use Rattle.std.proofs.Common.{Bool, true, false, ◌≡◌, ℕ, ◌<◌, ◌≤◌, List, [], ◌∷◌, ◌++◌, length, sym, refl, ap, ◌∙◌, arith, subst, append_assoc, Option, Some, ◌⊎◌, ⊎_elim, inl, inr}
use mathlib.Core.Logic.{dite}
use native.Mathlib.Decide.{dec_lt}
use Rattle.std.specs.List.{AllByRecursion}
use Rattle.ea_machine.specs.Totals.{total}
use Rattle.ea_machine.proofs.Totals.{total-append}
use Rattle.ea_pool.specs.declared.heap.entry.Entry.{Entry}
use Rattle.ea_pool.specs.declared.shared.account.LastTake.{LastTake}
use Rattle.ea_base.specs.declared.limits.TheConstants.{HORIZON}
use Rattle.ea_pool.specs.declared.shared.words.TheConstants.{EMPTY}
use Rattle.ea_pool.specs.Entries.{only, times, SameEntries, ComesFirst, IsLeastOf, IsAscending, AreTakenOut, face}
use Rattle.ea_pool.specs.Kinds.{HeapKind, Least, Buckets, Shows, Gives, GivesOne, IsEnough, IsSpentAs, IsBelow}
use Rattle.ea_pool.specs.States.{take_at}
use Rattle.ea_pool.specs.Tries.{TookAll}
use Rattle.ea_pool.specs.Pools.{AreInTime}
use Rattle.ea_pool.specs.Batches.{GoesIn, AreFirst, TookEnough}
use Rattle.ea_pool.proofs.Weights.{only-same, only-one}
use Rattle.ea_pool.proofs.Gathered.{no_weight}
use Rattle.ea_pool.proofs.Shown.{shown_empty, given_parts}
use Rattle.ea_pool.proofs.HeapOrder.{comes_before, least_of_part}

-- the last entry of a batch goes in
pub goes_one : (before batch batch' heap₀ heap heap' : List Entry) (e : Entry) → GoesIn before batch heap₀ heap → batch ≡ batch' ++ e ∷ [] → SameEntries heap' (e ∷ heap) → GoesIn before batch' heap₀ heap'
goes_one before batch batch' heap₀ heap heap' e h is more = record {
  went = e ∷ h.went;
  split = h.split ∙ (ap (λ (l : List Entry). l ++ h.went) is ∙ append_assoc batch' (e ∷ []) h.went);
  added = λ f. omega (arith, more f, h.added f);
}

-- or is returned
pub goes_none : (before batch batch' heap₀ heap heap' : List Entry) → GoesIn before batch heap₀ heap → batch' ≡ batch → heap' ≡ heap → GoesIn before batch' heap₀ heap'
goes_none before batch batch' heap₀ heap heap' h same still = record {
  went = h.went;
  split = h.split ∙ ap (λ (l : List Entry). l ++ h.went) (sym same);
  added = λ f. ap (total f) still ∙ h.added f;
}

all_behind : (x : Entry) (out rest : List Entry) → 0 < times x rest → AllByRecursion (λ e. IsLeastOf e rest) out → AllByRecursion (λ e. ComesFirst e x) out
all_behind x [] rest there h = tt
all_behind x (e ∷ out) rest there h = (comes_before e x rest h.0 there, all_behind x out rest there h.1)

least_snoc : (y x : Entry) (xs : List Entry) → IsLeastOf y xs → ComesFirst y x → IsLeastOf y (xs ++ x ∷ [])
least_snoc y x [] h first = (first, tt)
least_snoc y x (z ∷ xs) h first = (h.0, least_snoc y x xs h.1 first)

ascending_snoc : (x : Entry) (out : List Entry) → IsAscending out → AllByRecursion (λ e. ComesFirst e x) out → IsAscending (out ++ x ∷ [])
ascending_snoc x [] h first = (tt, tt)
ascending_snoc x (e ∷ out) h first = (least_snoc e x out h.0 first.0, ascending_snoc x out h.1 first.1)

least_still : (x : Entry) (out rest rest' : List Entry) → ((d : Entry) → times d rest' ≤ times d rest) → IsLeastOf x rest' → AllByRecursion (λ e. IsLeastOf e rest) out → AllByRecursion (λ e. IsLeastOf e rest') (out ++ x ∷ [])
least_still x [] rest rest' few here h = (here, tt)
least_still x (e ∷ out) rest rest' few here h = (least_of_part e rest rest' few h.0, least_still x out rest rest' few here h.1)

-- the least entry of a heap is popped after others
pub one_more_out : (out heap rest rest' : List Entry) (x : Entry) → AreTakenOut out heap rest → IsLeastOf x rest → SameEntries rest (x ∷ rest') → AreTakenOut (out ++ x ∷ []) heap rest'
one_more_out out heap rest rest' x h least same =
    let few : (d : Entry) → times d rest' ≤ times d rest = λ d. omega (arith, same (only d)) in
    record {
      parts = λ f. omega (arith, h.parts f, same f, total-append f out rest, total-append f (out ++ x ∷ []) rest', total-append f out (x ∷ []));
      ascending = ascending_snoc x out h.ascending (all_behind x out rest (omega (arith, same (only x), only-same x)) h.least);
      least = least_still x out rest rest' few (least_of_part x rest rest' few least) h.least;
    }

-- nothing is popped yet
pub none_out_yet : (kind : HeapKind) (heap : List Entry) → Gives kind [] heap heap
none_out_yet Least heap = record { parts = λ f. refl; ascending = tt; least = tt }
none_out_yet Buckets heap = λ f. refl

-- and one is popped after others
pub one_more_given : (kind : HeapKind) (out heap rest rest' : List Entry) (x : Entry) → Gives kind out heap rest → GivesOne kind x rest rest' → Gives kind (out ++ x ∷ []) heap rest'
one_more_given Least out heap rest rest' x h one = one_more_out out heap rest rest' x h one.0 one.1
one_more_given Buckets out heap rest rest' x h one = λ f. omega (arith, h f, one f, total-append f out rest, total-append f (out ++ x ∷ []) rest', total-append f out (x ∷ []))

-- entries of a heap after a batch was pushed were in the heap or in the batch
pub in_time_after : (before after heap heap' : List Entry) → GoesIn before after heap heap' → AreInTime (before ++ heap) → AreInTime heap'
in_time_after before after heap heap' h low e there =
    low e (omega (arith, h.added (only e), total-append (only e) h.went heap, total-append (only e) before heap, ap (times e) h.split, total-append (only e) after h.went))

-- and those left after some were popped were in it
pub in_time_left : (kind : HeapKind) (out heap heap' : List Entry) → Gives kind out heap heap' → AreInTime heap → AreInTime heap'
in_time_left kind out heap heap' h low e there = low e (omega (arith, given_parts kind out heap heap' h (only e), total-append (only e) out heap'))

-- if none was popped, none was asked for, or there is none
all_or_none : (kind : HeapKind) (most : ℕ) (rest : List Entry) → IsEnough kind most [] rest → (0 ≡ most) ⊎ (rest ≡ [])
all_or_none Least most rest h = h
all_or_none Buckets most rest h = ⊎_elim inl (λ (t : (rest ≡ []) ⊎ (0 < 0)). ⊎_elim inr (λ (some : 0 < 0). absurd (omega arith)) t) h

-- enough were popped: as many as asked for, or all, or all that is given at once
pub asked_enough : (kind : HeapKind) (most : ℕ) (out rest : List Entry) → length out ≡ most → IsEnough kind most out rest
asked_enough Least most out rest h = inl h
asked_enough Buckets most out rest h = inl h

pub none_enough : (kind : HeapKind) (most : ℕ) (out rest : List Entry) → rest ≡ [] → IsEnough kind most out rest
none_enough Least most out rest h = inr h
none_enough Buckets most out rest h = inr (inl h)

pub spent_enough : (kind : HeapKind) (most : ℕ) (out rest : List Entry) (spent : Bool) → IsSpentAs kind spent → spent ≡ true → 0 < length out → IsEnough kind most out rest
spent_enough Least most out rest spent is not some = let e : true ≡ false = sym not ∙ is in cc
spent_enough Buckets most out rest spent is not some = inr (inr some)

-- a heap with entries gives some if some are asked for
pub comes_some : (kind : HeapKind) (most word : ℕ) (out heap rest : List Entry) → AreFirst kind most out heap rest → 0 < most → Shows kind word heap → word < EMPTY → 0 < length out
comes_some kind most word (e ∷ out) heap rest h asked shown low = omega arith
comes_some kind most word [] heap rest h asked shown low = ⊎_elim
    (λ (all : 0 ≡ most). absurd (omega arith))
    (λ (none : rest ≡ []). let empty : heap ≡ [] = no_weight heap (λ f. given_parts kind [] heap rest h.taken f ∙ ap (total f) none) in absurd (omega (arith, shown_empty kind word heap shown empty)))
    (all_or_none kind most rest h.enough)

pub comes_enough : (kind : HeapKind) (most : ℕ) (out heap rest : List Entry) (last : Option LastTake) (k : ℕ) (seen : List (ℕ × ℕ)) → last ≡ Some (take_at k heap seen) → AreFirst kind most out heap rest → TookEnough kind most out last
comes_enough Buckets most out heap rest last k seen is h = tt
comes_enough Least most out heap rest last k seen is h = ⊎_elim
    (λ (all : length out ≡ most). inl all)
    (λ (none : rest ≡ []). inr (subst (TookAll out) (sym is) (λ f. omega (arith, h.taken.parts f, total-append f out rest, ap (total f) none))))
    h.enough

head_first : (e d : Entry) (out content rest : List Entry) → AreTakenOut (e ∷ out) content rest → 0 < times d content → e.key ≤ d.key
head_first e d out content rest h there =
    dite (dec_lt 0 (times d rest)) (λ later. (comes_before e d rest h.least.0 later).0)
    (λ none. dite (dec_lt 0 (times d out)) (λ next. (comes_before e d out h.ascending.0 next).0)
    (λ no. let one = only-one d e (omega (arith, h.parts (only d), total-append (only d) out rest)) in omega (arith, ap (λ (x : Entry). x.key) one)))

face_at_least : (k : ℕ) (es : List Entry) → ((d : Entry) → 0 < times d es → k ≤ d.key) → k ≤ EMPTY → k ≤ face es
face_at_least k [] h low = low
face_at_least k (e ∷ es) h low = let a = h e (omega (arith, only-same e)) in let b = face_at_least k es (λ d there. h d (omega arith)) low in omega arith

-- the least popped entry is the least of all
pub face_out : (out content rest : List Entry) → AreTakenOut out content rest → 0 < length out → ((d : Entry) → 0 < times d out → d.key ≤ HORIZON) → face out ≤ face content
face_out [] content rest h some low = absurd (omega arith)
face_out (e ∷ out) content rest h some low =
    let there = low e (omega (arith, only-same e)) in
    let least = face_at_least e.key content (λ d there. head_first e d out content rest h there) (omega arith) in
    omega arith

-- with the word of its heap, a popped entry is no later than all whose bound is this word
pub below_out : (kind : HeapKind) (word : ℕ) (out content rest : List Entry) (d : Entry) → Gives kind out content rest → Shows kind word content → 0 < length out → ((e : Entry) → 0 < times e out → e.key ≤ HORIZON)
    → word ≤ d.key → IsBelow kind word out d
below_out Least word out content rest d h shown some low late = omega (arith, face_out out content rest h some low, shown)
below_out Buckets word out content rest d h shown some low late = late
