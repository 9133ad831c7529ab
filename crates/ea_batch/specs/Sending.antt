-- Sending reports: they were sent, or a fault stopped them.
use Rattle.std.specs.Prelude.{◌≡◌, ◌≤◌, ℕ, ◌+◌, ◌-◌, ◌*◌, ◌^◌, List, Result, Ok, Err}
use Rattle.ea_base.specs.declared.limits.TheConstants.{MOST_STARTS}
use Rattle.ea_bytes.specs.Device.{GivesUp, Seen}
use Rattle.ea_road.specs.Queries.{Asking}
use Rattle.ea_load.specs.declared.road.Road.{Road}
use Rattle.ea_load.specs.declared.answer_fault.AnswerFault.{AnswerFault}
use Rattle.ea_load.specs.declared.answer_fault.AnswerFault.TheVariants.{Write}
use Rattle.ea_load.specs.Posed.{times_on}
use Rattle.ea_report.specs.Asked.{Shape}
use Rattle.ea_report.specs.Sent.{IsCutAt, IsWhole}
use Rattle.ea_batch.specs.Sent.{AreCutShort, AreSent, IsSent, IsStoppedBy}

-- A problem's report was sent, and has at most 2^90 bytes.
pub record HasSent (shape : Shape) (road : Road) (query : Asking) (old now : Seen) (before written : ℕ) : Type 0 where
  pub sent : IsSent shape road.network (times_on road) query old now before written
  pub bound : written ≤ before + 2 ^ 90

-- A problem's report was sent, or a fault stopped it.
abbrev pub SendsReport : Shape → Road → Asking → Seen → Seen → ℕ → ℕ → Result (Unit {0}) AnswerFault → Type 0
SendsReport shape road query old now before written (Ok done) = HasSent shape road query old now before written
SendsReport shape road query old now before written (Err fault) = IsStoppedBy shape road.network (times_on road) query old now before fault

-- A text was sent whole, and has at most 2^90 bytes.
pub record HasSentText (text : List ℕ) (old now : Seen) (before written : ℕ) : Type 0 where
  pub whole : IsWhole old now text (written - before)
  pub least : before ≤ written
  pub bound : written ≤ before + 2 ^ 90

-- A text was sent, or only its first bytes, and the device gave up.
abbrev pub SendsText : List ℕ → Seen → Seen → ℕ → ℕ → Result (Unit {0}) AnswerFault → Type 0
SendsText text old now before written (Ok done) = HasSentText text old now before written
SendsText text old now before written (Err fault) =
    (sent : ℕ) × (fault ≡ Write (before + sent)) × IsCutAt old.bytes now.bytes text sent × GivesUp old now

-- The reports of problems were sent, and no more bytes than the reports of a file's problems have.
pub record HaveSent (shape : Shape) (road : Road) (problems : List Asking) (old now : Seen) (written : ℕ) : Type 0 where
  pub sent : AreSent shape road.network (times_on road) problems old now written
  pub bound : written ≤ MOST_STARTS * 2 ^ 90

-- The reports of problems were sent, or cut short by a fault; a result has the number of bytes.
abbrev pub SendsAll : {X : Type 0} → (X → ℕ) → Shape → Road → List Asking → Seen → Seen → Result X AnswerFault → Type 0
SendsAll written_in shape road problems old now (Ok done) = HaveSent shape road problems old now (written_in done)
SendsAll written_in shape road problems old now (Err fault) = AreCutShort shape road.network (times_on road) problems old now fault
