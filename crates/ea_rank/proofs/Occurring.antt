-- How often a time occurs among the labels and among the popped keys.
use Rattle.std.proofs.Common.{◌≡◌, ℕ, suc, ◌+◌, ◌-◌, ◌<◌, ◌≤◌, eqb, leb, cond, ◌&&◌, List, [], ◌∷◌, length, map, get_or, refl, ap, ◌∙◌, arith, subst, inl, inr}
use Rattle.std.proofs.lemmas.Bool.Decides.{eqb_tells, nat_tests}
use Rattle.ea_pool.specs.declared.heap.entry.Entry.{Entry}
use Rattle.ea_machine.specs.Totals.{total}
use Rattle.ea_pool.specs.Entries.{times}
use Rattle.ea_machine.proofs.Totals.{total-map}
use Rattle.ea_rank.specs.Records.{occurrences}
use Rattle.ea_rank.specs.Runs.{entry_of}

abbrev late : ℕ → ℕ → Entry → ℕ
late time n e = cond (eqb e.key time && leb n e.node) 1 0

one_later : (k m time n : ℕ) → cond {A = ℕ} (eqb k time && leb (suc n) m) 1 0 + cond {A = ℕ} (eqb k time && eqb m n) 1 0 ≤ cond {A = ℕ} (eqb k time && leb n m) 1 0
one_later k m time n = grind (arith, nat_tests)

late_most : (k m time n : ℕ) → cond {A = ℕ} (eqb k time && leb n m) 1 0 ≤ cond {A = ℕ} (eqb k time) 1 0
late_most k m time n = grind (arith, nat_tests)

all_later : (time n : ℕ) (popped : List Entry) → total (late time (suc n)) popped + times (entry_of n time) popped ≤ total (late time n) popped
all_later time n [] = omega arith
all_later time n (e ∷ popped) = omega (arith, one_later e.key e.node time n, all_later time n popped)

all_most : (time n : ℕ) (popped : List Entry) → total (late time n) popped ≤ total (λ (e : Entry). cond (eqb e.key time) 1 0) popped
all_most time n [] = omega arith
all_most time n (e ∷ popped) = omega (arith, late_most e.key e.node time n, all_most time n popped)

from_place : (time n : ℕ) (labels : List ℕ) (popped : List Entry) → ((k : ℕ) → k < length labels → get_or labels k 0 ≡ time → 0 < times (entry_of (n + k) time) popped) → occurrences time labels ≤ total (late time n) popped
from_place time n [] popped each = omega arith
from_place time n (x ∷ labels) popped each =
    let rest = from_place time (suc n) labels popped (λ k near is. (let e : n + suc k ≡ suc n + k = omega arith in subst (λ (m : ℕ). 0 < times (entry_of m time) popped) e (each (suc k) (omega arith) is))) in
    let split = all_later time n popped in
    elim (eqb_tells x time) [
      | inl e ↦ (
          let z : n + 0 ≡ n = omega arith in
          let first : 0 < times (entry_of n time) popped = subst (λ (m : ℕ). 0 < times (entry_of m time) popped) z (each 0 (omega arith) e.1) in
          let one : cond {A = ℕ} (eqb x time) 1 0 ≡ 1 = rw e.0 refl in omega arith)
      | inr e ↦ (let none : cond {A = ℕ} (eqb x time) 1 0 ≡ 0 = rw e.0 refl in omega arith)
    ]

-- if the entry of each label at the time was popped, the time was popped as often as it is a label
pub popped_as_often : (time : ℕ) (labels : List ℕ) (popped : List Entry) (keys : List ℕ) → ((node : ℕ) → 0 < node → node ≤ length labels → get_or labels (node - 1) 0 ≡ time → 0 < times (entry_of node time) popped) → keys ≡ map (λ (e : Entry). e.key) popped → occurrences time labels ≤ occurrences time keys
popped_as_often time labels popped keys each is =
    let low = from_place time 1 labels popped (λ k near at. each (1 + k) (omega arith) (omega arith) (let e : 1 + k - 1 ≡ k = omega arith in ap (λ (m : ℕ). get_or labels m 0) e ∙ at)) in
    let most = all_most time 1 popped in
    let same = ap (λ (l : List ℕ). occurrences time l) is ∙ total-map (λ (k : ℕ). cond {A = ℕ} (eqb k time) 1 0) (λ (e : Entry). e.key) popped in
    omega arith
