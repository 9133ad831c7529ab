-- How messages name the faults of a report.
use Rattle.std.specs.Prelude.{ℕ, List, codes, Option, Some, None}
use Rattle.ea_check.specs.declared.fault.CheckFault.{CheckFault}
use Rattle.ea_check.specs.declared.fault.CheckFault.TheVariants.{BadLine, NotAttained, NotLeast, OutOfMemory, NotCanonical}

abbrev pub fault_number : CheckFault → ℕ
fault_number (BadLine line) = 1
fault_number (NotAttained line) = 2
fault_number (NotLeast line) = 3
fault_number OutOfMemory = 4
fault_number (NotCanonical line) = 5

abbrev pub fault_name : CheckFault → List ℕ
fault_name (BadLine line) = codes "BadLine"
fault_name (NotAttained line) = codes "NotAttained"
fault_name (NotLeast line) = codes "NotLeast"
fault_name OutOfMemory = codes "OutOfMemory"
fault_name (NotCanonical line) = codes "NotCanonical"

-- The line, if the fault has one.
abbrev pub fault_line : CheckFault → Option ℕ
fault_line (BadLine line) = Some line
fault_line (NotAttained line) = Some line
fault_line (NotLeast line) = Some line
fault_line OutOfMemory = None
fault_line (NotCanonical line) = Some line
