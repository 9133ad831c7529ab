-- What was sent of the reports of problems, whole or cut short.
use Rattle.std.specs.Prelude.{◌≡◌, ◌⊎◌, ℕ, ◌+◌, ◌*◌, ◌≤◌, List, Some, length, slice_get, take}
use Rattle.std.specs.Io.KnownBytes.{Appends}
use Rattle.ea_bytes.specs.Device.{BearsOn, GivesUp, Seen}
use Rattle.ea_base.specs.declared.limits.TheConstants.{MOST_INTERRUPTIONS}
use Rattle.ea_road.specs.Roads.{Roads}
use Rattle.ea_road.specs.Queries.{Asking}
use Rattle.ea_report.specs.Asked.{Shape}
use Rattle.ea_report.specs.Sent.{IsCutAt, IsNotLess}
use Rattle.ea_load.specs.declared.answer_fault.AnswerFault.{AnswerFault}
use Rattle.ea_load.specs.declared.answer_fault.AnswerFault.TheVariants.{Write, OutOfMemory}
use Rattle.ea_batch.specs.Reported.{IsReportOf, AreReported}

-- ---- one problem

-- A problem's report was sent.
pub record IsSent (shape : Shape) (roads : Roads) (answers : ℕ → ℕ → ℕ → ℕ → Type 0) (query : Asking) (old now : Seen) (before written : ℕ) : Type 0 where
  pub text : List ℕ
  pub is_report : IsReportOf shape roads answers query text
  pub appended : Appends old.bytes now.bytes text
  pub counted : written ≡ before + length text
  pub unfailed : now.failed ≡ old.failed
  pub borne : now.interrupted ≤ old.interrupted + MOST_INTERRUPTIONS
  pub not_less : IsNotLess old.interrupted now.interrupted

-- Only the first bytes of a problem's report were sent.
pub record IsStopped (shape : Shape) (roads : Roads) (answers : ℕ → ℕ → ℕ → ℕ → Type 0) (query : Asking) (old now : Seen) (before written : ℕ) : Type 0 where
  pub text : List ℕ
  pub is_report : IsReportOf shape roads answers query text
  pub sent : ℕ
  pub counted : written ≡ before + sent
  pub cut : IsCutAt old.bytes now.bytes text sent

-- The reason: in this report, the device failed for the first time or was interrupted once too often; or
-- memory was refused, before or after some of it was written, and the device did not fail.
abbrev pub IsStoppedBy : Shape → Roads → (ℕ → ℕ → ℕ → ℕ → Type 0) → Asking → Seen → Seen → ℕ → AnswerFault → Type 0
IsStoppedBy shape roads answers query old now before (Write written) =
    IsStopped shape roads answers query old now before written × GivesUp old now
IsStoppedBy shape roads answers query old now before (OutOfMemory written) =
    ((written ≡ before) × (now ≡ old)) ⊎ (IsStopped shape roads answers query old now before written × BearsOn old now)
IsStoppedBy shape roads answers query old now before _ = ⊥

-- ---- many

-- The reports of problems were sent.
pub record AreSent (shape : Shape) (roads : Roads) (answers : ℕ → ℕ → ℕ → ℕ → Type 0) (problems : List Asking) (first now : Seen) (written : ℕ) : Type 0 where
  pub report : List ℕ
  pub are_reported : AreReported shape roads answers problems report
  pub appended : Appends first.bytes now.bytes report
  pub counted : written ≡ length report
  pub unfailed : now.failed ≡ first.failed
  pub borne : now.interrupted ≤ first.interrupted + length problems * MOST_INTERRUPTIONS
  pub monotone : first.interrupted ≤ now.interrupted

-- The reports of this many problems were sent whole, and the next one's stopped.
pub record AreCutShort (shape : Shape) (roads : Roads) (answers : ℕ → ℕ → ℕ → ℕ → Type 0) (problems : List Asking) (first now : Seen) (fault : AnswerFault) : Type 0 where
  pub count : ℕ
  pub query : Asking
  pub old : Seen
  pub before : ℕ
  pub is_next : slice_get problems count ≡ Some query
  pub sent : AreSent shape roads answers (take count problems) first old before
  pub stopped : IsStoppedBy shape roads answers query old now before fault
