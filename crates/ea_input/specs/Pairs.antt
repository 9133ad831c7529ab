-- The text of pairs.
use Rattle.std.specs.Prelude.{ℕ, List, [], ◌∷◌, codes, Result, Ok, Err}
use Rattle.ea_input.specs.Range.{IsNumberIn}
use Rattle.ea_blocks.specs.Fault.{◌>>=◌, numeral, within}
use Rattle.ea_blocks.specs.Reading.{text_after}
use Rattle.ea_input.specs.Listing.{DenotesItems, any_count, Listed, nothing_listed, list_step, list_end}
use Rattle.ea_blocks.specs.declared.fault.FaultKind.{FaultKind}
use Rattle.ea_blocks.specs.declared.fault.FaultKind.TheVariants.{FieldCount}
use Rattle.ea_blocks.specs.declared.fault.InputFault.{InputFault}

-- The two fields behind `q` are the numbers of two nodes.
abbrev pub IsPair : ℕ → List (List ℕ) → ℕ × ℕ → Type 0
IsPair nodes (s ∷ t ∷ []) pair = IsNumberIn 1 nodes s pair.0 × IsNumberIn 1 nodes t pair.1
IsPair nodes _ pair = ⊥

-- Lines denote pairs: `p aux sp p2p N`, and N lines `q S T` of nodes up to `nodes`.
abbrev pub DenotesPairs : ℕ → List (List (List ℕ)) → List (ℕ × ℕ) → Type 0
DenotesPairs nodes lines pairs = DenotesItems (codes "p2p") (codes "q") (any_count nodes) (IsPair nodes) lines pairs

-- A pair whose numbers these fields are.
unfoldable pub pair_read : ℕ → List ℕ → List ℕ → Result (ℕ × ℕ) FaultKind
pair_read nodes s t = do
  source ← numeral s
  target ← numeral t
  source ← within 1 nodes source
  target ← within 1 nodes target
  Ok (source, target)

unfoldable pub pair_of : ℕ → List (List ℕ) → Result (ℕ × ℕ) FaultKind
pair_of nodes (s ∷ t ∷ []) = pair_read nodes s t
pair_of nodes _ = Err FieldCount

abbrev pub pair_step : Listed (ℕ × ℕ) → List (List ℕ) → Result (Listed (ℕ × ℕ)) FaultKind
pair_step = list_step (codes "p2p") (codes "q") any_count pair_of

-- What a reader finds: the pairs of a text, or a fault.
abbrev pub pairs_of : ℕ → List (List (List ℕ)) → Result (List (ℕ × ℕ)) InputFault
pairs_of nodes lines = text_after pair_step list_end (nothing_listed nodes) lines
