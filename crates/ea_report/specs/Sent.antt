-- The bytes that a device was sent.
use Rattle.std.specs.Prelude.{◌≡◌, ◌⊎◌, ℕ, ◌+◌, ◌-◌, ◌^◌, ◌<◌, ◌≤◌, min, List, ◌++◌, Option, length, take}
use Rattle.std.specs.Io.KnownBytes.{Appends}
use Rattle.ea_bytes.specs.Device.{Seen, BearsOn, GivesUp}
use Rattle.ea_report.specs.Delivery.{Delivery}
use Rattle.ea_report.specs.declared.report.WriteFault.{WriteFault}
use Rattle.ea_report.specs.declared.report.WriteFaultKind.{WriteFaultKind}
use Rattle.ea_report.specs.declared.report.WriteFaultKind.TheVariants.{WriteFailed, OutOfMemory}

-- Exactly this many bytes of a text were sent, its first ones.
abbrev pub IsCutAt : Option (List ℕ) → Option (List ℕ) → List ℕ → ℕ → Type 0
IsCutAt old new text sent = (sent ≤ length text) × Appends old new (take sent text)

-- The interruptions were counted, as far as the device's count reaches.
abbrev pub AreCounted : ℕ → ℕ → ℕ → Type 0
AreCounted old new count = (new ≤ old + count) × ((old + count ≤ new) ⊎ (new ≡ 2 ^ 64 - 1))

-- No call of a device failed, and this many were interrupted.
abbrev pub HasBorne : Seen → Seen → ℕ → Type 0
HasBorne first now count = (now.failed ≡ first.failed) × AreCounted first.interrupted now.interrupted count

-- All of these bytes were sent, and the count of interruptions continues from any earlier count.
pub record SendsWhole (old now : Seen) (bytes : List ℕ) (before after : ℕ) : Type 0 where
  pub sent : Appends old.bytes now.bytes bytes
  pub counted : (first : Seen) → HasBorne first old before → HasBorne first now after

-- This many of these bytes were sent, the first ones, and the device gave up after any earlier count of
-- interruptions.
pub record SendsFront (old now : Seen) (bytes : List ℕ) (before sent : ℕ) : Type 0 where
  pub cut : IsCutAt old.bytes now.bytes bytes sent
  pub given_up : (first : Seen) → HasBorne first old before → GivesUp first now

-- A count of bytes is exact: it has not reached its end.
abbrev pub IsExact : ℕ → Type 0
IsExact written = written < 2 ^ 128 - 1

-- A text is delivered: its first bytes were sent, this many as far as the count reaches, and the rest is
-- pending. No call failed, and this many were interrupted.
pub record Delivers (first now : Seen) (delivery : Delivery) (text : List ℕ) : Type 0 where
  pub sent : List ℕ
  pub appended : Appends first.bytes now.bytes sent
  pub whole : text ≡ sent ++ delivery.pending
  pub counted : delivery.written ≡ min (length sent) (2 ^ 128 - 1)
  pub borne : HasBorne first now delivery.interruptions

-- The device's counts show why a text was not written whole: WriteFailed means its first failure, or one
-- interruption too many; OutOfMemory neither.
abbrev pub IsReason : WriteFaultKind → Seen → Seen → Type 0
IsReason WriteFailed first now = GivesUp first now
IsReason OutOfMemory first now = BearsOn first now

-- A text was cut: its first bytes were sent, and there is a reason.
abbrev pub IsCutBy : Seen → Seen → List ℕ → WriteFault → Type 0
IsCutBy first now text fault = IsCutAt first.bytes now.bytes text fault.written × IsReason fault.kind first now

-- The count of interruptions didn't fall, as far as it reaches.
abbrev pub IsNotLess : ℕ → ℕ → Type 0
IsNotLess old new = (old ≤ new) ⊎ (new ≡ 2 ^ 64 - 1)

-- A text was written whole: its bytes were sent, this many; no call failed; and the interruptions were
-- counted and not too many.
abbrev pub IsWhole : Seen → Seen → List ℕ → ℕ → Type 0
IsWhole first now text written =
    (written ≡ length text) × Appends first.bytes now.bytes text × BearsOn first now × IsNotLess first.interrupted now.interrupted

-- What was delivered stays so, with more.
abbrev pub DeliversMore : Seen → Delivery → Seen → Delivery → Type 0
DeliversMore old delivery now delivery_now =
    (first : Seen) (text : List ℕ) → Delivers first old delivery text → Delivers first now delivery_now text

-- What was delivered is cut.
abbrev pub Cuts : Seen → Delivery → Seen → WriteFault → Type 0
Cuts old delivery now fault =
    (first : Seen) (text : List ℕ) → Delivers first old delivery text → IsCutBy first now text fault

-- More text was added: for each text that was delivered, that text with the addition is delivered now.
abbrev pub Adds : Seen → Delivery → Seen → Delivery → List ℕ → Type 0
Adds old delivery now delivery_now more =
    (first : Seen) (text : List ℕ) → Delivers first old delivery text → Delivers first now delivery_now (text ++ more)

-- More text was to be added: for each text that was delivered, that text with the addition is cut.
abbrev pub Stops : Seen → Delivery → Seen → WriteFault → List ℕ → Type 0
Stops old delivery now fault more =
    (first : Seen) (text : List ℕ) → Delivers first old delivery text → IsCutBy first now (text ++ more) fault
