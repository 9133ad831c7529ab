-- The text of sources.
use Rattle.std.specs.Prelude.{ℕ, List, [], ◌∷◌, codes, Result}
use Rattle.ea_input.specs.Range.{IsNumberIn}
use Rattle.ea_blocks.specs.Reading.{text_after}
use Rattle.ea_input.specs.Listing.{DenotesItems, any_count, Listed, nothing_listed, list_step, list_end, only_number}
use Rattle.ea_blocks.specs.declared.fault.FaultKind.{FaultKind}
use Rattle.ea_blocks.specs.declared.fault.InputFault.{InputFault}

-- The one field behind `s` is a node's number.
abbrev pub IsSource : ℕ → List (List ℕ) → ℕ → Type 0
IsSource nodes (s ∷ []) source = IsNumberIn 1 nodes s source
IsSource nodes _ source = ⊥

-- Lines denote sources: `p aux sp ss N`, and N lines `s S` of nodes up to `nodes`.
abbrev pub DenotesSources : ℕ → List (List (List ℕ)) → List ℕ → Type 0
DenotesSources nodes lines sources = DenotesItems (codes "ss") (codes "s") (any_count nodes) (IsSource nodes) lines sources

abbrev pub source_of : ℕ → List (List ℕ) → Result ℕ FaultKind
source_of nodes fields = only_number 1 nodes fields

abbrev pub source_step : Listed ℕ → List (List ℕ) → Result (Listed ℕ) FaultKind
source_step = list_step (codes "ss") (codes "s") any_count source_of

-- What a reader finds: the sources of a text, or a fault.
abbrev pub sources_of : ℕ → List (List (List ℕ)) → Result (List ℕ) InputFault
sources_of nodes lines = text_after source_step list_end (nothing_listed nodes) lines
