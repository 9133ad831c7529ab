use Rattle.std.proofs.Common.{ℕ, ◌<◌, ◌≤◌, List, [], ◌∷◌, ◌++◌, arith, subst, sym}
use mathlib.Core.Logic.{dite}
use native.Mathlib.Decide.{dec_lt}
use Rattle.ea_base.specs.declared.limits.TheConstants.{HORIZON}
use Rattle.ea_pool.specs.declared.heap.entry.Entry.{Entry}
use Rattle.ea_pool.specs.Entries.{only, AreKnown, IsKnown}
use Rattle.ea_pool.proofs.Weights.{known_one}
use Rattle.test_shared.proofs.heaps.add.Goals as goal

-- one more known entry
known_snoc : (known : ℕ → ℕ → Type 0) (xs : List Entry) (x : Entry) → AreKnown known xs → IsKnown known x → AreKnown known (xs ++ x ∷ [])
known_snoc known [] x all may e there = known_one known x may e there
known_snoc known (y ∷ xs) x all may e there = dite (dec_lt 0 (only e y)) (λ here. all e (omega arith)) (λ none. known_snoc known xs x (λ d some. all d (omega arith)) may e (omega arith))

pub returns-clause-in_time : goal.returns-clause-in_time
returns-clause-in_time c =
    subst (λ (es : List Entry). AreKnown (λ node time. time ≤ HORIZON) es) (sym c.push.ensures.items)
    (known_snoc (λ node time. time ≤ HORIZON) c.args.batch.now.items c.args.new c.requires.in_time.0 c.requires.in_time.1)
