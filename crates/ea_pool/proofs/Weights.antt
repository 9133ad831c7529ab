-- How often an entry is among entries.
use Rattle.std.proofs.Common.{◌≡◌, ◌<◌, ℕ, List, [], ◌∷◌, ◌++◌, refl, sym, ap, ◌∙◌, subst, arith, eqb, eq-eqb, ne_eqb, cond, ◌&&◌}
use mathlib.Core.Logic.{dite}
use native.Mathlib.Decide.{ℕ_discrete}
use Rattle.ea_pool.specs.declared.heap.entry.Entry.{Entry}
use Rattle.ea_machine.proofs.Totals.{total-append}
use Rattle.ea_pool.specs.Entries.{only, SameEntries, IsKnown, AreKnown}

pub only-same : (e : Entry) → only e e ≡ 1
only-same e = ap (λ b. cond (b && eqb e.node e.node) 1 0) (eq-eqb e.key e.key refl) ∙ ap (λ b. cond b 1 0) (eq-eqb e.node e.node refl)

-- two entries with the same key and the same node are one
entry_is : (e x : Entry) → e.key ≡ x.key → e.node ≡ x.node → e ≡ x
entry_is e x k n = λ i. record { key = k i; node = n i }

pub only-one : (e x : Entry) → 0 < only e x → e ≡ x
only-one e x h = dite (ℕ_discrete x.key e.key)
    (λ k. dite (ℕ_discrete x.node e.node) (λ n. entry_is e x (sym k) (sym n)) (λ ne. let z : only e x ≡ 0 = ap (λ b. cond (b && eqb x.node e.node) 1 0) (eq-eqb x.key e.key k) ∙ ap (λ b. cond b 1 0) (ne_eqb x.node e.node ne) in absurd (omega arith)))
    (λ ne. let z : only e x ≡ 0 = ap (λ b. cond (b && eqb x.node e.node) 1 0) (ne_eqb x.key e.key ne) in absurd (omega arith))

-- what was added to the same entries is the same
pub added_same : (es ds xs ys : List Entry) → SameEntries xs (es ++ ys) → SameEntries xs (ds ++ ys) → SameEntries es ds
added_same es ds xs ys a b = λ f. omega (arith, a f, b f, total-append f es ys, total-append f ds ys)

-- a list with the same entries as a list of one is that list
pub one_entry : (e : Entry) (ds : List Entry) → SameEntries ds (e ∷ []) → ds ≡ e ∷ []
one_entry e [] h = absurd (omega (arith, h (only e), only-same e))
one_entry e (d ∷ []) h = ap (λ (x : Entry). x ∷ []) (sym (only-one e d (omega (arith, h (only e), only-same e))))
one_entry e (d ∷ x ∷ ds) h = absurd (omega (arith, h (λ _. 1)))

-- and it is the entry of that list
pub known_one : (known : ℕ → ℕ → Type 0) (e : Entry) → IsKnown known e → AreKnown known (e ∷ [])
known_one known e may x there = subst (IsKnown known) (sym (only-one x e (omega arith))) may
