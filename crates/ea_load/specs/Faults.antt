-- Faults of files and of writing as faults of an answer.
use Rattle.std.specs.Prelude.{ℕ, ◌+◌}
use Rattle.ea_load.specs.declared.file_fault.FileFault.{FileFault}
use Rattle.ea_load.specs.declared.file_fault.FileFault.TheVariants as file
use Rattle.ea_load.specs.declared.answer_fault.AnswerFault.{AnswerFault}
use Rattle.ea_load.specs.declared.answer_fault.AnswerFault.TheVariants.{Read, Input, Write, OutOfMemory}
use Rattle.ea_report.specs.declared.report.WriteFault.{WriteFault}
use Rattle.ea_report.specs.declared.report.WriteFaultKind.{WriteFaultKind}
use Rattle.ea_report.specs.declared.report.WriteFaultKind.TheVariants.{WriteFailed, OutOfMemory as NoMemory}

-- Nothing was written.
abbrev pub answer_fault : FileFault → AnswerFault
answer_fault (file.Read word fault) = Read word fault
answer_fault (file.Input word fault) = Input word fault
answer_fault file.OutOfMemory = OutOfMemory 0

-- A fault of writing, after this many bytes in all.
abbrev pub fault_by : WriteFaultKind → ℕ → AnswerFault
fault_by WriteFailed written = Write written
fault_by NoMemory written = OutOfMemory written

-- A fault of one text, after this many bytes of those before.
abbrev pub fault_after : ℕ → WriteFault → AnswerFault
fault_after before fault = fault_by fault.kind (before + fault.written)
