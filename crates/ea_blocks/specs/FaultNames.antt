-- The numbers and names of faults in messages.
use Rattle.std.specs.Prelude.{ℕ, List, codes}
use Rattle.ea_blocks.specs.declared.fault.FaultKind.{FaultKind}
use Rattle.ea_blocks.specs.declared.fault.FaultKind.TheVariants.{NoProblemLine, SecondProblemLine, UnknownLine, FieldCount, BadNumber, OutOfRange, TooManyLines, TooFewLines, BadKind, OutOfMemory}

abbrev pub kind_number : FaultKind → ℕ
kind_number NoProblemLine = 1
kind_number SecondProblemLine = 2
kind_number UnknownLine = 3
kind_number FieldCount = 4
kind_number BadNumber = 5
kind_number OutOfRange = 6
kind_number TooManyLines = 7
kind_number TooFewLines = 8
kind_number BadKind = 9
kind_number OutOfMemory = 13

abbrev pub kind_name : FaultKind → List ℕ
kind_name NoProblemLine = codes "NoProblemLine"
kind_name SecondProblemLine = codes "SecondProblemLine"
kind_name UnknownLine = codes "UnknownLine"
kind_name FieldCount = codes "FieldCount"
kind_name BadNumber = codes "BadNumber"
kind_name OutOfRange = codes "OutOfRange"
kind_name TooManyLines = codes "TooManyLines"
kind_name TooFewLines = codes "TooFewLines"
kind_name BadKind = codes "BadKind"
kind_name OutOfMemory = codes "OutOfMemory"
