-- What the lines of a problem that were read say, as the bytes of their device come.
use Rattle.std.specs.Prelude.{◌≡◌, ℕ, List, [], ◌∷◌, ◌++◌, length, Option}
use Rattle.ea_bytes.specs.Device.{Seen}
use Rattle.ea_check.specs.declared.form.report_lines.ReportLines.{ReportLines}
use Rattle.ea_check.specs.Reads.{ReadsNode, ReadsNodes, ReadsWalk}
use Rattle.ea_check.specs.Streams.{LeadsTo}
use Rattle.ea_check.specs.Verdicts.{Said, WrittenWalk}

-- A node's `w` line was read if there is one, and is kept with its time.
pub record ReadsWalkOf (node number time : ℕ) (kept more : List Said) (old : Seen) (before : ReportLines) (new : Seen) (after : ReportLines) : Type 0 where
  pub walk : Option WrittenWalk
  pub grown : more ≡ kept ++ record { line = number; time = time; walk = walk } ∷ []
  pub read : LeadsTo (ReadsWalk node walk) old before new after

-- A node's lines were read, and are kept.
pub record ReadsOneMore (node : ℕ) (kept more : List Said) (old : Seen) (before : ReportLines) (new : Seen) (after : ReportLines) : Type 0 where
  pub said : Said
  pub grown : more ≡ kept ++ said ∷ []
  pub read : LeadsTo (ReadsNode node said) old before new after

-- The lines of this many nodes were read.
pub record ReadsAllNodes (nodes : ℕ) (reported : List Said) (old : Seen) (before : ReportLines) (new : Seen) (after : ReportLines) : Type 0 where
  pub each_node : length reported ≡ nodes
  pub read : LeadsTo (ReadsNodes 1 reported) old before new after
