-- The entries of many heaps.
use Rattle.std.proofs.Common.{◌≡◌, ℕ, ◌+◌, List, [], ◌∷◌, ◌++◌, refl, ap, arith}
use Rattle.ea_pool.specs.declared.heap.entry.Entry.{Entry}
use Rattle.ea_machine.specs.Totals.{total}
use Rattle.ea_pool.specs.Entries.{gathered}
use Rattle.ea_machine.proofs.Totals.{total-append}

pub total_gathered : (f : Entry → ℕ) (all : List (List Entry)) → total f (gathered all) ≡ total (total f) all
total_gathered f [] = refl
total_gathered f (es ∷ rest) = omega (arith, total-append f es (gathered rest), total_gathered f rest)

pub no_weight : (es : List Entry) → ((f : Entry → ℕ) → total f es ≡ 0) → es ≡ []
no_weight [] h = refl
no_weight (e ∷ es) h = absurd (omega (arith, h (λ _. 1)))

-- the last heap, taken off
pub total_last : (f : Entry → ℕ) (before after : List (List Entry)) (es : List Entry) → before ≡ after ++ es ∷ [] → total (total f) before ≡ total (total f) after + total f es
total_last f before after es e = omega (arith, ap (total (total f)) e, total-append (total f) after (es ∷ []))
