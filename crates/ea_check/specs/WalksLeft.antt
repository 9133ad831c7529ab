-- The walks of a problem that are left to be read.
use Rattle.std.specs.Prelude.{◌≡◌, ℕ, ◌+◌, ◌-◌, List, drop, Option, Some, None}
use Rattle.ea_check.specs.declared.form.walk_reader.WalkReader.{WalkReader}
use Rattle.ea_check.specs.Verdicts.{WrittenWalk, Said, IsSaid}
use Rattle.ea_check.specs.Views.{said_from}

-- What is left to be read is said of the nodes from this one on.
pub record IsAtNode (reported : List Said) (node : ℕ) (reader : WalkReader) : Type 0 where
  pub lines : List ℕ
  pub times : List ℕ
  pub left : said_from reader.arcs.items reader.own.now reader.walks.now lines times ≡ drop (node - 1) reported

-- The walk in this line, if there is one.
abbrev pub written : Option ℕ → List ℕ → Option WrittenWalk
written None arcs = None
written (Some line) arcs = Some (record { line = line; arcs = arcs })

-- The walk of the node was read, whatever the report.
abbrev pub ReadsNext : Option ℕ → WalkReader → WalkReader → Type 0
ReadsNext line old new = (reported : List Said) (node : ℕ) (said : Said) → IsAtNode reported node old → IsSaid reported node said → IsAtNode reported (node + 1) new × (said.walk ≡ written line new.arcs.items)
