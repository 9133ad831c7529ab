-- Bytes that are taken from a device, block by block.
use Rattle.std.specs.Prelude.{◌≡◌, ◌≢◌, ◌⊎◌, ℕ, ◌+◌, ◌<◌, ◌≤◌, ◌^◌, ◌-◌, List, ◌++◌, length, IfSome, vec_len}
use Rattle.std.specs.Io.KnownBytes.{Consumes, IsAtEnd}
use Rattle.ea_base.specs.declared.limits.TheConstants.{MOST_INTERRUPTIONS}
use Rattle.ea_bytes.specs.Device.{AreAlike, Seen, TakesAtMost}
use Rattle.ea_blocks.specs.Outcome.{FaultCounts, failures_with, interruptions_with}
use Rattle.ea_blocks.specs.declared.blocks.Blocks.{Blocks}
use Rattle.ea_blocks.specs.declared.blocks.Piece.{Piece}
use Rattle.ea_blocks.specs.declared.blocks.Piece.TheVariants.{End, Some}
use Rattle.ea_blocks.specs.declared.blocks.ReadFault.{ReadFault}
use Rattle.ea_blocks.specs.declared.blocks.ReadFault.TheVariants.{TooLarge}

-- Bytes grow by those that were taken from a device.
abbrev pub Takes : Seen → Seen → List ℕ → List ℕ → Type 0
Takes old new before after = (got : List ℕ) × (after ≡ before ++ got) × Consumes old.bytes new.bytes got

-- The bytes of one read, with this outcome, were appended to those before.
pub record AppendsRead (old new : Seen) (before after : List ℕ) (read : Piece) : Type 0 where
  pub more : Takes old new before after
  pub some : read ≡ Some → length before < length after
  pub end : read ≡ End → IsAtEnd new.bytes
  pub kept : read ≢ Some → after ≡ before
  pub failed : new.failed ≡ failures_with read old.failed
  pub interrupted : new.interrupted ≡ interruptions_with read old.interrupted

-- Memory for the bytes of one read, of at most this length, was refused, and they are lost.
pub record LosesRead (most : ℕ) (old new : Seen) (before after : List ℕ) : Type 0 where
  pub kept : after ≡ before
  pub taken : TakesAtMost most old new
  pub quiet : AreAlike old new

-- There is room for one read.
abbrev pub HasRoom : Blocks → Type 0
HasRoom blocks = vec_len blocks.piece ≡ 65536

-- These bytes were taken from a device since it was first seen, within a limit: what is left of it, and the
-- interruptions so far.
pub record IsTaken (limit : ℕ) (first now : Seen) (bytes : List ℕ) (left interruptions : ℕ) : Type 0 where
  pub all : Consumes first.bytes now.bytes bytes
  pub within : length bytes + left ≡ limit
  pub borne : interruptions ≤ MOST_INTERRUPTIONS
  pub counted : (first.interrupted + interruptions ≤ now.interrupted) ⊎ (now.interrupted ≡ 2 ^ 64 - 1)
  pub at_most : now.interrupted ≤ first.interrupted + interruptions
  pub failed : now.failed ≡ first.failed

-- The same for a reader of blocks.
abbrev pub IsTakenBy : Blocks → ℕ → Seen → Seen → List ℕ → Type 0
IsTakenBy blocks limit first now bytes = IsTaken limit first now bytes blocks.left blocks.interruptions

-- A block grows by bytes that are taken after those before.
abbrev pub GoesOnTaking : Seen → Blocks → Seen → Blocks → List ℕ → List ℕ → Type 0
GoesOnTaking old blocks new after block grown =
    (got : List ℕ) × (grown ≡ block ++ got)
    × ((limit : ℕ) (first : Seen) (bytes : List ℕ) → IsTakenBy blocks limit first old bytes → IsTakenBy after limit first new (bytes ++ got))

-- A block is longer than before, or one more interruption was tolerated.
abbrev pub IsTakenOn : Blocks → Blocks → ℕ → ℕ → Type 0
IsTakenOn blocks after len grown = ((len < grown) × (after.interruptions ≡ blocks.interruptions)) ⊎ ((grown ≡ len) × (blocks.interruptions < MOST_INTERRUPTIONS) × (after.interruptions ≡ blocks.interruptions + 1))

-- A device is read no further, for this reason: its counts, at most one byte beyond the limit, and more than
-- the limit for `TooLarge`.
pub record IsStopped (limit : ℕ) (first now : Seen) (fault : ReadFault) : Type 0 where
  pub counts : FaultCounts fault first now
  pub taken : TakesAtMost (limit + 1) first now
  pub too_large : fault ≡ TooLarge → IfSome first.bytes (λ left. limit < length left)

-- The same for a device that was read before.
abbrev pub StopsTaking : Seen → Blocks → Seen → ReadFault → Type 0
StopsTaking old blocks new fault = (limit : ℕ) (first : Seen) (bytes : List ℕ) → IsTakenBy blocks limit first old bytes → IsStopped limit first new fault
