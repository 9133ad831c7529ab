-- An entry is in a list exactly if its weight there is not 0.
use Rattle.std.proofs.Common.{◌≡◌, zero, suc, ◌<◌, List, [], ◌∷◌, length, refl, sym, ap, arith, inl, inr, ◌⊎◌}
use Rattle.std.specs.Prelude.{Contains}
use mathlib.Core.Logic.{dite}
use native.Mathlib.Decide.{dec_lt}
use Rattle.ea_pool.specs.declared.heap.entry.Entry.{Entry}
use Rattle.ea_machine.specs.Totals.{total}
use Rattle.ea_pool.specs.Entries.{only, times, SameEntries}
use Rattle.ea_pool.proofs.Weights.{only-same, only-one}

pub Contains-head : {X : Type 0} (x : X) (xs : List X) → Contains (x ∷ xs) x
Contains-head x xs = (0, omega arith, refl)

pub Contains-later : {X : Type 0} (x y : X) (xs : List X) → Contains xs y → Contains (x ∷ xs) y
Contains-later x y xs h = (suc h.0, omega (arith, h.1), h.2)

pub times-Contains : (entry : Entry) (entries : List Entry) → Contains entries entry → 0 < times entry entries
times-Contains entry [] h = absurd (omega (arith, h.1))
times-Contains entry (x ∷ xs) (zero, lt, e) = omega (arith, only-same entry, ap (only entry) e)
times-Contains entry (x ∷ xs) (suc i, lt, e) = omega (arith, times-Contains entry xs (i, omega (arith, lt), e))

pub Contains-times : (entry : Entry) (entries : List Entry) → 0 < times entry entries → Contains entries entry
Contains-times entry [] h = absurd (omega (arith, h))
Contains-times entry (x ∷ xs) h = dite (dec_lt 0 (only entry x))
    (λ here. (0, omega arith, sym (only-one entry x here)))
    (λ none. Contains-later x entry xs (Contains-times entry xs (omega (arith, h, none))))

-- the same entries are in both
pub Contains-same : (xs ys : List Entry) (entry : Entry) → SameEntries xs ys → Contains xs entry → Contains ys entry
Contains-same xs ys entry same h = Contains-times entry ys (omega (arith, same (only entry), times-Contains entry xs h))

pub Contains-tail : {X : Type 0} (x : X) (xs : List X) (y : X) → Contains (x ∷ xs) y → (x ≡ y) ⊎ Contains xs y
Contains-tail x xs y (zero, lt, e) = inl e
Contains-tail x xs y (suc i, lt, e) = inr (i, omega (arith, lt), e)

-- the length is a total
pub length-total : (xs : List Entry) → total (λ _. 1) xs ≡ length xs
length-total [] = refl
length-total (x ∷ xs) = omega (arith, length-total xs)

pub same_length : (xs ys : List Entry) → SameEntries xs ys → length xs ≡ length ys
same_length xs ys same = omega (arith, same (λ _. 1), length-total xs, length-total ys)
