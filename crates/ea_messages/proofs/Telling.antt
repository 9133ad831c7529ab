-- Lines that were sent.
use Rattle.std.proofs.Common.{◌≡◌, ℕ, ◌+◌, ◌-◌, ◌^◌, ◌≤◌, List, length, sym, arith, subst, inl, inr}
use Rattle.std.specs.Prelude.{Result, Ok, Err, IfOk, IfErr}
use Rattle.std.specs.Io.KnownBytes.{Appends}
use Rattle.std.proofs.Math.Seq.{take-length}
use Rattle.ea_bytes.specs.Device.{Seen, GivesUp}
use Rattle.ea_report.specs.Sent.{IsCutBy, IsReason, IsWhole}
use Rattle.ea_report.specs.declared.report.WriteFault.{WriteFault}
use Rattle.ea_report.specs.declared.report.WriteFaultKind.TheVariants.{WriteFailed}
use Rattle.ea_messages.specs.Said.{IsSaid}

-- A device that gave up shows it.
gone : (first now : Seen) → GivesUp first now → now.failed ≤ first.failed → now.failed + 1 ≤ 2 ^ 64 - 1 → now.interrupted ≤ first.interrupted + 1000 → now.interrupted + 1 ≤ 2 ^ 64 - 1 → ⊥
gone first now (inl h) few below calm fits = omega (arith, h.0)
gone first now (inr h) few below calm fits = elim h.2 [ inl e ↦ omega (arith, e) | inr e ↦ omega (arith, e) ]

-- A device that gave up counted one failure, or one interruption too many.
counted : (first now : Seen) → GivesUp first now → (now.failed ≤ first.failed + 1) × (now.interrupted ≤ first.interrupted + 1001)
counted first now (inl h) = (omega (arith, h.0), omega (arith, h.1))
counted first now (inr h) = (omega (arith, h.0), omega (arith, h.1))

pub told : (r : Result ℕ WriteFault) (first now : Seen) (line : List ℕ) → IfOk r (IsWhole first now line) → IfErr r (IsCutBy first now line) → IfErr r (λ fault. fault.kind ≡ WriteFailed) → IsSaid line first now
told (Ok written) first now line whole cut kind = record {
  sent = length line;
  front = (omega arith, subst (λ t. Appends first.bytes now.bytes t) (sym (take-length line)) whole.1);
  one_failure = omega (arith, whole.2.0);
  few_interruptions = omega (arith, whole.2.1);
  whole = λ few below calm fits. whole.1;
}
told (Err fault) first now line whole cut kind = record {
  sent = fault.written;
  front = cut.0;
  one_failure = (counted first now (subst (λ k. IsReason k first now) kind cut.1)).0;
  few_interruptions = (counted first now (subst (λ k. IsReason k first now) kind cut.1)).1;
  whole = λ few below calm fits. absurd (gone first now (subst (λ k. IsReason k first now) kind cut.1) few below calm fits);
}
