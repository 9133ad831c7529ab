-- A report of one problem has one verdict.
use Rattle.std.proofs.Common.{◌≡◌, refl, ℕ, List, arith, ap}
use Rattle.std.specs.Prelude.{◌≢◌, Result, Ok, Err}
use Rattle.ea_road.specs.declared.source.Source.{Source}
use Rattle.ea_travel_times.specs.Answers.{IsFifo}
use Rattle.ea_road.specs.Roads.{Roads}
use Rattle.ea_check.specs.declared.fault.CheckFault.{CheckFault}
use Rattle.ea_check.specs.declared.fault.CheckFault.TheVariants.{BadLine, NotAttained, NotLeast, OutOfMemory, NotCanonical}
use Rattle.ea_check.specs.Verdicts.{Said, IsVerdict, IsFirst, IsNotAttained, IsNotCanonical, IsNotLeast, improved, AreAttained, AreCanonical, AreUnimproved, IsWellFormed, IsTask}
use Rattle.ea_check.proofs.Firsts.{attained_no_fault, canonical_no_fault}
use Rattle.ea_check.proofs.Judged.{improved_node}

one_first : (IsFault : ℕ → ℕ → Type 0) (line other : ℕ) → IsFirst IsFault line → IsFirst IsFault other → line ≡ other
one_first IsFault line other this that =
    let up = this.first that.node other that.fault in
    let down = that.first this.node line this.fault in
    omega arith

module _
    (roads : Roads)
    (answers : ℕ → ℕ → ℕ → ℕ → Type 0)
    (classes : ℕ)
    (sources : List Source)
    (reported : List Said)
    (task : IsTask roads classes sources)
    (fifo : IsFifo answers classes)
    (formed : IsWellFormed roads.nodes reported)
  where
    abbrev Verdict : Result (Unit {0}) CheckFault → Type 0
    Verdict result = IsVerdict roads answers sources reported result

    attained_not : (line : ℕ) → AreAttained roads answers sources reported → IsFirst (IsNotAttained roads answers sources reported) line → ⊥
    attained_not line attained first = attained_no_fault roads answers sources reported first.node line (attained first.node) first.fault

    canonical_not : (line : ℕ) → AreCanonical roads answers sources reported → IsFirst (IsNotCanonical roads answers sources reported) line → ⊥
    canonical_not line canonical first = canonical_no_fault roads answers sources reported first.node line (canonical first.node) first.fault

    least_not : (line : ℕ) → AreUnimproved roads answers sources reported → IsFirst (IsNotLeast roads answers sources reported) line → ⊥
    least_not line unimproved first = of_fault first.node line first.fault
      where
        of_fault : (node line : ℕ) → IsNotLeast roads answers sources reported node line → ⊥
        of_fault node line (improved is_said improves) =
            unimproved node (improved_node roads answers classes sources reported task fifo formed node improves) improves

    pub one_verdict : (this that : Result (Unit {0}) CheckFault) → Verdict this → Verdict that → this ≢ Err OutOfMemory → that ≢ Err OutOfMemory → this ≡ that
    one_verdict (Ok _) (Ok _) a b p q = refl
    one_verdict (Ok _) (Err (NotAttained line)) a b p q = absurd (attained_not line a.attained b)
    one_verdict (Ok _) (Err (NotCanonical line)) a b p q = absurd (canonical_not line a.canonical b.1)
    one_verdict (Ok _) (Err (NotLeast line)) a b p q = absurd (least_not line a.unimproved b.2)
    one_verdict (Ok _) (Err (BadLine line)) a b p q = absurd b
    one_verdict (Ok _) (Err OutOfMemory) a b p q = absurd (q refl)
    one_verdict (Err (NotAttained line)) (Ok _) a b p q = absurd (attained_not line b.attained a)
    one_verdict (Err (NotAttained line)) (Err (NotAttained other)) a b p q = ap (λ n. Err (NotAttained n)) (one_first (IsNotAttained roads answers sources reported) line other a b)
    one_verdict (Err (NotAttained line)) (Err (NotCanonical other)) a b p q = absurd (attained_not line b.0 a)
    one_verdict (Err (NotAttained line)) (Err (NotLeast other)) a b p q = absurd (attained_not line b.0 a)
    one_verdict (Err (NotAttained line)) (Err (BadLine other)) a b p q = absurd b
    one_verdict (Err (NotAttained line)) (Err OutOfMemory) a b p q = absurd (q refl)
    one_verdict (Err (NotCanonical line)) (Ok _) a b p q = absurd (canonical_not line b.canonical a.1)
    one_verdict (Err (NotCanonical line)) (Err (NotAttained other)) a b p q = absurd (attained_not other a.0 b)
    one_verdict (Err (NotCanonical line)) (Err (NotCanonical other)) a b p q = ap (λ n. Err (NotCanonical n)) (one_first (IsNotCanonical roads answers sources reported) line other a.1 b.1)
    one_verdict (Err (NotCanonical line)) (Err (NotLeast other)) a b p q = absurd (canonical_not line b.1 a.1)
    one_verdict (Err (NotCanonical line)) (Err (BadLine other)) a b p q = absurd b
    one_verdict (Err (NotCanonical line)) (Err OutOfMemory) a b p q = absurd (q refl)
    one_verdict (Err (NotLeast line)) (Ok _) a b p q = absurd (least_not line b.unimproved a.2)
    one_verdict (Err (NotLeast line)) (Err (NotAttained other)) a b p q = absurd (attained_not other a.0 b)
    one_verdict (Err (NotLeast line)) (Err (NotCanonical other)) a b p q = absurd (canonical_not other a.1 b.1)
    one_verdict (Err (NotLeast line)) (Err (NotLeast other)) a b p q = ap (λ n. Err (NotLeast n)) (one_first (IsNotLeast roads answers sources reported) line other a.2 b.2)
    one_verdict (Err (NotLeast line)) (Err (BadLine other)) a b p q = absurd b
    one_verdict (Err (NotLeast line)) (Err OutOfMemory) a b p q = absurd (q refl)
    one_verdict (Err (BadLine line)) that a b p q = absurd a
    one_verdict (Err OutOfMemory) that a b p q = absurd (p refl)
