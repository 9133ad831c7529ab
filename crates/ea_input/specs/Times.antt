-- The text of times: when each source or pair departs, or has to be reached.
use Rattle.std.specs.Prelude.{ℕ, List, [], ◌∷◌, codes, Result}
use Rattle.ea_base.specs.declared.limits.TheConstants.{HORIZON}
use Rattle.ea_input.specs.Range.{IsNumberIn}
use Rattle.ea_blocks.specs.Reading.{text_after}
use Rattle.ea_input.specs.Listing.{DenotesItems, this_count, Listed, nothing_listed, list_step, list_end, only_number}
use Rattle.ea_blocks.specs.declared.fault.FaultKind.{FaultKind}
use Rattle.ea_blocks.specs.declared.fault.InputFault.{InputFault}

-- The one field behind `t` is a time.
abbrev pub IsTime : List (List ℕ) → ℕ → Type 0
IsTime (t ∷ []) time = IsNumberIn 0 HORIZON t time
IsTime _ time = ⊥

-- Lines denote times for this many starts: `p aux sp at N` with just this number, and N lines `t D`.
abbrev pub DenotesTimes : ℕ → List (List (List ℕ)) → List ℕ → Type 0
DenotesTimes count lines times = DenotesItems (codes "at") (codes "t") (this_count count) IsTime lines times

abbrev pub time_of : ℕ → List (List ℕ) → Result ℕ FaultKind
time_of _ fields = only_number 0 HORIZON fields

abbrev pub time_step : Listed ℕ → List (List ℕ) → Result (Listed ℕ) FaultKind
time_step = list_step (codes "at") (codes "t") this_count time_of

-- What a reader finds: the times of a text, or a fault.
abbrev pub times_of : ℕ → List (List (List ℕ)) → Result (List ℕ) InputFault
times_of count lines = text_after time_step list_end (nothing_listed count) lines
