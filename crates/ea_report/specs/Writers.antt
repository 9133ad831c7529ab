-- What the writers of a text do.
use Rattle.std.specs.Prelude.{◌≡◌, ℕ, ◌+◌, ◌*◌, ◌^◌, ◌<◌, ◌≤◌, List, IfErr, IfOk, OnOk, Result, length}
use Rattle.ea_bytes.specs.Device.{Seen}
use Rattle.ea_report.specs.Delivery.{Delivery}
use Rattle.ea_report.specs.Sent.{Adds, Cuts, DeliversMore, IsCutBy, IsExact, IsWhole, Stops}
use Rattle.ea_report.specs.declared.report.WriteFault.{WriteFault}
use Rattle.ea_report.specs.declared.report.WriteFaultKind.TheVariants.{WriteFailed}
use Rattle.ea_report.specs.declared.report.TheConstants.{PIECE}

module _ {T : Type 0} (old : Seen) (before : Delivery) (now : Seen) (after : Delivery) where
  -- What was delivered stays so, and less than a piece is pending; or it is cut while the pending text is sent.
  pub record GoesOnOrCuts (result : Result T WriteFault) : Type 0 where
    pub ok : OnOk result (DeliversMore old before now after)
    pub err : IfErr result (λ fault. IsExact fault.written → Cuts old before now fault)
    pub bound : after.written ≤ before.written + 2 ^ 63
    pub small : IfErr result (λ fault. fault.written ≤ before.written + 2 ^ 63)
    pub held : OnOk result (length after.pending < PIECE)

  -- More text was added in up to this many parts of at most 2^63 bytes, and less than a piece is pending; or the
  -- text stops within it, as far as the count of bytes is exact. It is if it began at 0: the parts are few enough.
  pub record AddsOrStops (parts : ℕ) (more : List ℕ) (result : Result T WriteFault) : Type 0 where
    pub ok : OnOk result (Adds old before now after more)
    pub err : IfErr result (λ fault. IsExact fault.written → Stops old before now fault more)
    pub count : ℕ
    pub within : count ≤ parts
    pub few : count < 2 ^ 64 + 2 ^ 33
    pub bound : after.written ≤ before.written + count * 2 ^ 63
    pub small : IfErr result (λ fault. fault.written ≤ before.written + count * 2 ^ 63)
    pub held : OnOk result (length after.pending < PIECE)

  -- More text was sent at once, in up to this many pieces of at most 2^64 bytes; or the device gave up within it.
  pub record AddsOrGivesUp (pieces : ℕ) (more : List ℕ) (result : Result T WriteFault) : Type 0 where
    pub ok : OnOk result (Adds old before now after more)
    pub err : IfErr result (λ fault. IsExact fault.written → Stops old before now fault more)
    pub device : IfErr result (λ fault. fault.kind ≡ WriteFailed)
    pub bound : after.written ≤ before.written + pieces * 2 ^ 64
    pub small : IfErr result (λ fault. fault.written ≤ before.written + pieces * 2 ^ 64)

-- A text of at most this many bytes was written whole, or it was cut.
pub record WritesOrCuts (most : ℕ) (first now : Seen) (text : List ℕ) (result : Result ℕ WriteFault) : Type 0 where
  pub ok : IfOk result (IsWhole first now text)
  pub err : IfErr result (IsCutBy first now text)
  pub bound : IfOk result (λ written. written ≤ most)
  pub small : IfErr result (λ fault. fault.written ≤ most)
