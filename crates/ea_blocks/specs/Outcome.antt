-- What reading a device did to its counts.
use Rattle.std.specs.Prelude.{ℕ, List, codes, Result, Ok, Err}
use Rattle.ea_bytes.specs.Device.{Seen, GivesUp, BearsOn, one_more}
use Rattle.ea_bytes.specs.declared.device.DeviceFault.TheVariants.{Interrupted, Failed}
use Rattle.ea_blocks.specs.declared.blocks.Piece.{Piece}
use Rattle.ea_blocks.specs.declared.blocks.Piece.TheVariants.{Fault}
use Rattle.ea_blocks.specs.declared.blocks.ReadFault.{ReadFault}
use Rattle.ea_blocks.specs.declared.blocks.ReadFault.TheVariants.{TooLarge, ReadFailed, OutOfMemory}

-- The counts after one read.
abbrev pub failures_with : Piece → ℕ → ℕ
failures_with (Fault Failed) n = one_more n
failures_with _ n = n

abbrev pub interruptions_with : Piece → ℕ → ℕ
interruptions_with (Fault Interrupted) n = one_more n
interruptions_with _ n = n

-- Only a failed read, or one interruption too many, is ReadFailed; all other interruptions were tolerated.
abbrev pub FaultCounts : ReadFault → Seen → Seen → Type 0
FaultCounts ReadFailed old new = GivesUp old new
FaultCounts TooLarge old new = BearsOn old new
FaultCounts OutOfMemory old new = BearsOn old new

-- The same if all bytes may have been read.
abbrev pub CountsAfter : {X : Type 0} → Result X ReadFault → Seen → Seen → Type 0
CountsAfter (Err fault) old new = FaultCounts fault old new
CountsAfter (Ok bytes) old new = BearsOn old new

-- The number and the name of a fault in messages.
abbrev pub fault_number : ReadFault → ℕ
fault_number TooLarge = 10
fault_number ReadFailed = 11
fault_number OutOfMemory = 13

abbrev pub fault_name : ReadFault → List ℕ
fault_name TooLarge = codes "TooLarge"
fault_name ReadFailed = codes "ReadFailed"
fault_name OutOfMemory = codes "OutOfMemory"
