-- The results of texts in memory, and why there is none.
use Rattle.std.specs.Prelude.{◌≡◌, ℕ, List, [], ◌∷◌, length, Option, Some, None}
use Rattle.ea_bytes.specs.Text.{field_lines}
use Rattle.ea_input.specs.Checks.{IsFaultOf}
use Rattle.ea_input.specs.Formats.{graph_format, table_format}
use Rattle.ea_input.specs.Graph.{Graph, DenotesGraph}
use Rattle.ea_load.specs.declared.file_fault.FileWord.TheVariants.{Gr, Tp}
use Rattle.ea_load.specs.declared.file_fault.FileFault.{FileFault}
use Rattle.ea_load.specs.declared.file_fault.FileFault.TheVariants.{Read, Input, OutOfMemory}

-- An empty text counts as none.
abbrev pub text_if_any : List ℕ → Option (List ℕ)
text_if_any [] = None
text_if_any (byte ∷ bytes) = Some (byte ∷ bytes)

-- A fault is the network's, or memory was refused; then the text may be right or wrong.
abbrev pub IsGraphFault : List ℕ → FileFault → Type 0
IsGraphFault gr (Input word fault) = (word ≡ Gr) × IsFaultOf graph_format (field_lines gr) fault
IsGraphFault gr (Read word fault) = ⊥
IsGraphFault gr OutOfMemory = Unit {0}

-- The same for timetables of this many arcs.
abbrev pub IsTableFault : ℕ → List ℕ → FileFault → Type 0
IsTableFault arcs tp (Input word fault) = (word ≡ Tp) × IsFaultOf (table_format arcs) (field_lines tp) fault
IsTableFault arcs tp (Read word fault) = ⊥
IsTableFault arcs tp OutOfMemory = Unit {0}

-- The first fault of both: the network's or, if it has none, the timetables'.
pub data IsTextFault (gr tp : List ℕ) (fault : FileFault) : Type 0 where
  in_graph : IsGraphFault gr fault → IsTextFault gr tp fault
  in_table : (graph : Graph) → DenotesGraph (field_lines gr) graph → IsTableFault (length graph.arcs) tp fault → IsTextFault gr tp fault
