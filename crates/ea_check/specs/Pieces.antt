-- Runs of plain lines that are read one beside another.
use Rattle.std.specs.Prelude.{◌≡◌, ℕ, ◌+◌, ◌<◌, ◌≤◌, List, length, take, drop, slice_index_or, Option, Some, None}
use Rattle.ea_base.specs.declared.direction.Direction.{Direction}
use Rattle.ea_check.specs.declared.form.run.LinesFound.{LinesFound}
use Rattle.ea_check.specs.declared.form.run.Run.{Run}
use Rattle.ea_check.specs.Runs.{BeginsWithNoWalk, IsRun}

-- The first bytes of a text are lines that say the times of nodes. No walk follows.
pub record AreIn (way : Direction) (text : List ℕ) (last : ℕ) (times : List ℕ) (found : LinesFound) : Type 0 where
  pub inside : found.bytes < length text
  pub run : IsRun way found.first times (take found.bytes text)
  pub quiet : BeginsWithNoWalk way (drop found.bytes text)
  pub few : found.first + length times ≤ last

abbrev pub AreFound : Direction → List ℕ → ℕ → List ℕ → ℕ → Option LinesFound → Type 0
AreFound way text last times from None = Unit {0}
AreFound way text last times from (Some found) = AreIn way (drop from text) last times found

-- The same of a part.
abbrev pub IsFoundIn : Direction → List ℕ → ℕ → Run → Type 0
IsFoundIn way text last run = AreFound way text last run.times.items run.from run.found

-- A part of a text was read.
abbrev pub IsRead : Direction → List ℕ → ℕ → Run → Run → Type 0
IsRead way text last old new = (new.from ≡ old.from) × IsFoundIn way text last new

-- Each part was read.
abbrev pub AreRead : Direction → List ℕ → ℕ → List Run → List Run → Type 0
AreRead way text last old new = (place : ℕ) (run : Run) → place < length old → IsRead way text last (slice_index_or old place run) (slice_index_or new place run)
