-- Lines of nodes that are read ahead of the line that was found.
use Rattle.std.specs.Prelude.{◌≡◌, ℕ, ◌+◌, List, ◌++◌, length, drop}
use Rattle.ea_bytes.specs.Device.{Seen}
use Rattle.ea_check.specs.declared.form.report_lines.ReportLines.{ReportLines}
use Rattle.ea_check.specs.Reads.{ReadsNodes}
use Rattle.ea_check.specs.Pieces.{AreIn}
use Rattle.ea_check.specs.Streams.{LeadsTo, rest_of}
use Rattle.ea_check.specs.Verdicts.{Said}

-- The first bytes that were not read are lines that say the times of nodes, from this one on. No walk follows.
abbrev pub IsAhead : ReportLines → ℕ → ℕ → List ℕ → ℕ → Type 0
IsAhead lines first last times bytes = AreIn lines.way (rest_of lines) last times (record { first = first; bytes = bytes })

-- This many bytes of the block were read, and this many lines.
pub record HasPassed (bytes count : ℕ) (old new : ReportLines) : Type 0 where
  pub rest : rest_of new ≡ drop bytes (rest_of old)
  pub counted : new.count ≡ old.count + count
  pub blocks : new.blocks ≡ old.blocks
  pub ended : new.ended ≡ old.ended
  pub way : new.way ≡ old.way

-- The lines of this many nodes were read, and are kept.
pub record ReadsAhead (node count : ℕ) (kept more : List Said) (old : Seen) (before : ReportLines) (new : Seen) (after : ReportLines) : Type 0 where
  pub said : List Said
  pub grown : more ≡ kept ++ said
  pub many : length said ≡ count
  pub read : LeadsTo (ReadsNodes node said) old before new after
