-- A reader or a writer of std as a device.
use Rattle.std.specs.Prelude.{ℕ}

-- What the device wraps, and how many of its calls failed and were interrupted.
pub record Opened (X : Type 0) : Type 0 where
  pub inner : X
  pub failures : ℕ
  pub interruptions : ℕ
